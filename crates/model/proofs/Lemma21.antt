-- Lemma 21 is sound: the pieces of a private part are disjoint where those of its operand are. Assumes nothing.
use mathlib.Core.Path.{refl}
use Rattle.model.specs.Layout.{Plan}
use Rattle.model.specs.Lemmas.{lemmas, lemma_row, licences, licence}
use Rattle.model.specs.DataSets.{DataSet}
use Rattle.model.specs.AcceptedPlans.{Facts}
use Rattle.model.proofs.Tests.{both}
use Rattle.model.proofs.Fitting.{Fit}
use Rattle.model.proofs.PrivateParts.{private_pieces_disjoint}
use Rattle.model.proofs.StepTruth.{disjoint_of, Sound}

module _ (P : Plan) (D : DataSet) (F : Facts P) (fit : Fit P D) where
  pub lemma_21 : Sound P D 21
  unfolding lemma_row lemmas licence licences
  lemma_21 x y p q u h =
      private_pieces_disjoint P D F x (u.x_listed refl) (both h).0 fit (disjoint_of P D p _ (both h).1 (u.p_true refl))
