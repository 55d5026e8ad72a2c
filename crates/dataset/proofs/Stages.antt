-- The check of a data set is those of its layout, its maps' entries and its supplied partitions, in this order. Assumes nothing.
use mathlib.Core.Path.{◌≡◌, refl}
use Rattle.model.specs.Bytes.{Bytes}
use Rattle.model.specs.Outcomes.{◌then◌}
use Rattle.model.specs.Layout.{Plan}
use Rattle.model.specs.DataSets.{data_of, data_check}
use Rattle.dataset.specs.Layout.{frame_check}
use Rattle.dataset.specs.Entries.{all_entries}
use Rattle.dataset.specs.Supplied.{all_supplied}

pub data_in_parts : (P : Plan) (d : Bytes) → data_check P d ≡ (frame_check P d then all_entries P (data_of d) then all_supplied P (data_of d))
unfolding data_check
data_in_parts P d = refl
