-- Stage by stage: the first refusal is handed on, and after the last all is known (Stages). Assumes nothing.
use mathlib.Core.Path.{◌≡◌, refl, sym, ◌∙◌}
use Rattle.std.specs.Prelude.{Ok}
use Rattle.primitives.proofs.Stages.{handed_on}
use Rattle.layout.specs.Sections.{plan_in}
use Rattle.dataset.specs.Layout.{set_of, LaidOut}
use Rattle.dataset.specs.Entries.{all_entries}
use Rattle.dataset.proofs.Starts.{own_entries, own_members}
use Rattle.evaluate.proofs.Stages.{plan_refused, layout_refused, entries_refused, supplied_decides, inputs_pass, data_fits}
use Rattle.evaluate.proofs.reading.read_inputs.Goals as goal
use Rattle.evaluate.proofs.reading.read_inputs.Goals.{In_ok-layout, In_ok-check_entries}

pub returns-in_err-reading : goal.returns-in_err-reading
returns-in_err-reading c = rw (handed_on _ c.from_residual.ensures.1) (plan_refused _ _ c.in_err-reading.ensures)

pub returns-in_err-layout : goal.returns-in_err-layout
returns-in_err-layout c =
    rw (handed_on _ c.from_residual-in_err-layout.ensures.1)
    (layout_refused _ c.in_ok-reading.ensures (c.in_err-layout.ensures _ (record { regions_are = refl; maps_are = refl; supplied_are = refl })))

-- the layout, once it passed
laid : (c : In_ok-layout) → LaidOut (plan_in c.in_ok-reading.reading.sections) c.args.«data».now c.in_ok-layout.layout
laid c = c.in_ok-layout.ensures _ (record { regions_are = refl; maps_are = refl; supplied_are = refl })

pub check_entries-requires : goal.check_entries-requires
check_entries-requires c =
    record {
      few_maps = c.in_ok-reading.reading.sections.limits.few_maps;
      plan = plan_in c.in_ok-reading.reading.sections;
      maps_are = refl;
      placed = (laid (goal.at.check_entries-requires c).In_ok-layout).placed.entries;
    }

pub returns-in_err-check_entries : goal.returns-in_err-check_entries
returns-in_err-check_entries c =
    let l = laid (goal.at.returns-in_err-check_entries c).In_ok-layout in
    rw (handed_on _ c.from_residual-in_err-check_entries.ensures.1)
    (entries_refused _ c.in_ok-reading.ensures l (sym (c.check_entries.ensures _ _ own_entries l.placed.entries) ∙ c.in_err-check_entries.was))

pub check_supplied-requires : goal.check_supplied-requires
check_supplied-requires c =
    record {
      few_supplied = c.in_ok-reading.reading.sections.limits.few_supplied;
      plan = plan_in c.in_ok-reading.reading.sections;
      supplied_are = refl;
      placed = (laid (goal.at.check_supplied-requires c).In_ok-layout).placed.members;
      few_pieces = (laid (goal.at.check_supplied-requires c).In_ok-layout).placed.few_pieces;
      small_regions = (laid (goal.at.check_supplied-requires c).In_ok-layout).placed.small_regions;
    }

-- the entries, once they passed
entries_pass : (c : In_ok-check_entries) → LaidOut (plan_in c.in_ok-reading.reading.sections) c.args.«data».now c.in_ok-layout.layout
    → all_entries (plan_in c.in_ok-reading.reading.sections) (set_of c.in_ok-layout.layout) ≡ Ok tt
entries_pass c l = sym (c.check_entries.ensures _ _ own_entries l.placed.entries) ∙ c.in_ok-check_entries.was

pub returns-in_err-check_supplied : goal.returns-in_err-check_supplied
returns-in_err-check_supplied c =
    let l = laid (goal.at.returns-in_err-check_supplied c).In_ok-layout in
    let e = entries_pass (goal.at.returns-in_err-check_supplied c).In_ok-check_entries l in
    rw (handed_on _ c.from_residual-in_err-check_supplied.ensures.1)
    (supplied_decides _ c.in_ok-reading.ensures l e ∙ sym (c.check_supplied.ensures _ _ own_members l.placed.members) ∙ c.in_err-check_supplied.was)

pub invariant_of-result : goal.invariant_of-result
invariant_of-result c =
    let l = laid (goal.at.invariant_of-result c).In_ok-layout in
    let e = entries_pass (goal.at.invariant_of-result c).In_ok-check_entries l in
    record {
      fits = data_fits _ c.in_ok-reading.ensures l e (sym (c.check_supplied.ensures _ _ own_members l.placed.members) ∙ c.in_ok-check_supplied.was);
      few_pieces = l.placed.few_pieces;
      placed = l.placed;
    }

pub returns : goal.returns
returns c =
    let l = laid (goal.at.returns c).In_ok-layout in
    let e = entries_pass (goal.at.returns c).In_ok-check_entries l in
    let plan_is = c.in_ok-reading.ensures.sections_are in
    record {
      passes = inputs_pass _ c.in_ok-reading.ensures l e (sym (c.check_supplied.ensures _ _ own_members l.placed.members) ∙ c.in_ok-check_supplied.was);
      plan_is = plan_is;
      data_is = refl;
    }
