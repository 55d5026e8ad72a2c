-- Each entry is the value that the definition has, from what the tables hold of earlier statements. Assumes nothing.
use mathlib.Core.Path.{◌∙◌}
use Rattle.std.proofs.lemmas.Option.{unwrap_or-slice_get}
use Rattle.loops.proofs.StatementLaws.{region_value, centered_value}
use Rattle.loops.proofs.statements.Statement.entry_following.Goals as goal

pub returns : goal.returns
returns c =
    λ P maps is o regions centers.
    record {
      operand_is = o;
      region_is =
          c.variable_region.ensures P _ maps is
          ∙ region_value P _ c.requires regions o (c.unwrap_or-copied_region.ensures ∙ rw (c.earlier.ensures, c.from-followed.ensures, unwrap_or-slice_get));
      centered_is =
          c.defines_centered.ensures P _ is
          ∙ centered_value P _ c.requires centers o (c.unwrap_or-copied_centered.ensures ∙ rw (c.earlier-2.ensures, c.from-followed.ensures, unwrap_or-slice_get));
    }
