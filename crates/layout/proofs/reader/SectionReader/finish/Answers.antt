-- All sections passed; what is left is that nothing follows (Frames). Assumes nothing.
use Rattle.model.specs.Tests.{◌≤?◌}
use Rattle.std.proofs.Common.{sym, ◌∙◌}
use Rattle.layout.proofs.Frames.{progress_end}
use Rattle.layout.proofs.reader.SectionReader.finish.Goals as goal

pub returns : goal.returns
unfolding ◌≤?◌
returns c = c.require.ensures ∙ sym (progress_end _ c.args.self.past c.requires)
