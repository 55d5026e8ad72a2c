-- "Lemma steps": the table of 21 rows, what a step concludes, and when it is by its lemma.
use Rattle.std.specs.Prelude.{ℕ, ◌+◌, ◌-◌, ◌*◌, List, [], ◌∷◌, Bool, true, false, get_or}
use Rattle.model.specs.Tests.{◌and◌, ◌or◌, ◌=?◌, ◌<?◌, ◌≤?◌}
use Rattle.model.specs.Outcomes.{require, ◌then◌, Outcome}
use Rattle.model.specs.Layout.{Plan, node_count, node_kind, node_a, node_b, totality, supplied_flags, step_lemma, step_x, step_y, step_p, step_q}
use Rattle.model.specs.Nodes.{SUPPLIED, EQUAL, UNION, INTERSECTION, DIFFERENCE, IMAGE, PREIMAGE}
use Rattle.model.specs.declared.Refusal.TheVariants.{InvalidRecord, UnlicensedStep}
use Rattle.model.specs.declared.Conclusion.{Conclusion}
use Rattle.model.specs.declared.Conclusion.TheVariants.{Subset, Disjoint, Complete}
use Rattle.model.specs.declared.Lemma.{Lemma}

-- a row of the table
abbrev pub row : Conclusion → Bool → Bool → Bool → Bool → Lemma
row conclusion x y p q = record { conclusion = conclusion; x = x; y = y; p = p; q = q }

-- One constant table "says what each concludes and uses": x, y, p, q.
-- "Every SUB uses y, and so do 15 and 19; 6, 8, 10 and 12 to 20 use p; 6, 8, 10, 15 and 19 use q"; 21 uses x and p
unfoldable pub lemmas : List Lemma
lemmas =
    row Disjoint true false false false
    ∷ row Complete true false false false
    ∷ row Disjoint true false false false
    ∷ row Complete true false false false
    ∷ row Subset true true false false
    ∷ row Subset true true true true
    ∷ row Subset true true false false
    ∷ row Subset true true true true
    ∷ row Subset true true false false
    ∷ row Subset true true true true
    ∷ row Subset true true false false
    ∷ row Subset true true true false
    ∷ row Subset true true true false
    ∷ row Subset true true true false
    ∷ row Disjoint true true true true
    ∷ row Disjoint true false true false
    ∷ row Disjoint true false true false
    ∷ row Disjoint true false true false
    ∷ row Complete true true true true
    ∷ row Complete true false true false
    ∷ row Disjoint true false true false
    ∷ []

-- lemmas are numbered from 1
unfoldable pub lemma_row : ℕ → Lemma
lemma_row l = get_or lemmas (l - 1) (row Subset false false false false)

-- a number that is used is below its bound; "Unused bytes are 0"
unfoldable pub in_use : Bool → ℕ → ℕ → Bool
in_use true bound v = v <? bound
in_use false bound v = v =? 0

-- a step of this form concludes SUB
unfoldable pub is_subset : Conclusion → Bool
is_subset Subset = true
is_subset Disjoint = false
is_subset Complete = false

-- a step of this form concludes DISJ
unfoldable pub is_disjoint : Conclusion → Bool
is_disjoint Subset = false
is_disjoint Disjoint = true
is_disjoint Complete = false

-- a step of this form concludes COMP
unfoldable pub is_complete : Conclusion → Bool
is_complete Subset = false
is_complete Disjoint = false
is_complete Complete = true

module _ (P : Plan) where
  -- "Conclusions are SUB(x, y), DISJ(x) or COMP(x)": step t concludes this
  unfoldable pub concludes_subset : ℕ → ℕ → ℕ → Bool
  concludes_subset t x y = is_subset (lemma_row (step_lemma P t)).conclusion and step_x P t =? x and step_y P t =? y

  unfoldable pub concludes_disjoint : ℕ → ℕ → Bool
  concludes_disjoint t x = is_disjoint (lemma_row (step_lemma P t)).conclusion and step_x P t =? x

  unfoldable pub concludes_complete : ℕ → ℕ → Bool
  concludes_complete t x = is_complete (lemma_row (step_lemma P t)).conclusion and step_x P t =? x

  -- node k is one of the two operands of node j
  unfoldable pub operand_of : ℕ → ℕ → Bool
  operand_of j k = node_a P j =? k or node_b P j =? k

  -- node j is of this kind, with these two numbers
  unfoldable pub is_node : ℕ → ℕ → ℕ → ℕ → Bool
  is_node j kind a b = node_kind P j =? kind and node_a P j =? a and node_b P j =? b

  -- lemma 21 is Theorem 5.1 of 001. Of x, which is F minus the image under f of (G minus P): G minus P, its operands G and P, and the map f
  abbrev pub private_rest : ℕ → ℕ
  private_rest x = node_a P (node_b P x)

  abbrev pub private_preimage : ℕ → ℕ
  private_preimage x = node_a P (private_rest x)

  abbrev pub private_operand : ℕ → ℕ
  private_operand x = node_b P (private_rest x)

  abbrev pub private_map : ℕ → ℕ
  private_map x = node_b P (node_b P x)

  -- "x is F minus the image under f of (G minus P), where F is the image of P under f and G the preimage of F under f"
  unfoldable pub is_private_part : ℕ → Bool
  is_private_part x =
      node_kind P x =? DIFFERENCE and node_kind P (node_b P x) =? IMAGE and node_kind P (private_rest x) =? DIFFERENCE
      and is_node (node_a P x) IMAGE (private_operand x) (private_map x)
      and is_node (private_preimage x) PREIMAGE (node_a P x) (private_map x)

  -- the licence of each lemma, as the list of lemmas has it: what x, y and the steps p and q must be
  unfoldable pub licences : List (ℕ → ℕ → ℕ → ℕ → Bool)
  licences =
      (λ x y p q. node_kind P x =? EQUAL)
      ∷ (λ x y p q. node_kind P x =? EQUAL)
      ∷ (λ x y p q. node_kind P x =? SUPPLIED and (supplied_flags P (node_a P x) =? 1 or supplied_flags P (node_a P x) =? 3))
      ∷ (λ x y p q. node_kind P x =? SUPPLIED and (supplied_flags P (node_a P x) =? 2 or supplied_flags P (node_a P x) =? 3))
      ∷ (λ x y p q. y =? x)
      ∷ (λ x y p q. concludes_subset p x (step_y P p) and concludes_subset q (step_y P p) y)
      ∷ (λ x y p q. node_kind P y =? UNION and operand_of y x)
      ∷ (λ x y p q. node_kind P x =? UNION and concludes_subset p (node_a P x) y and concludes_subset q (node_b P x) y)
      ∷ (λ x y p q. node_kind P x =? INTERSECTION and operand_of x y)
      ∷ (λ x y p q. node_kind P y =? INTERSECTION and concludes_subset p x (node_a P y) and concludes_subset q x (node_b P y))
      ∷ (λ x y p q. node_kind P x =? DIFFERENCE and node_a P x =? y)
      ∷ (λ x y p q. node_kind P x =? IMAGE and node_kind P y =? IMAGE and node_b P x =? node_b P y
      and concludes_subset p (node_a P x) (node_a P y))
      ∷ (λ x y p q. node_kind P x =? PREIMAGE and node_kind P y =? PREIMAGE and node_b P x =? node_b P y
      and concludes_subset p (node_a P x) (node_a P y))
      ∷ (λ x y p q. node_kind P x =? IMAGE and concludes_subset p (node_a P x) (step_y P p) and node_kind P (step_y P p) =? PREIMAGE
      and node_a P (step_y P p) =? y and node_b P (step_y P p) =? node_b P x)
      ∷ (λ x y p q. concludes_disjoint p y and concludes_subset q x y)
      ∷ (λ x y p q. node_kind P x =? INTERSECTION and (concludes_disjoint p (node_a P x) or concludes_disjoint p (node_b P x)))
      ∷ (λ x y p q. node_kind P x =? DIFFERENCE and concludes_disjoint p (node_a P x))
      ∷ (λ x y p q. node_kind P x =? PREIMAGE and concludes_disjoint p (node_a P x))
      ∷ (λ x y p q. concludes_complete p y and concludes_subset q y x)
      ∷ (λ x y p q. node_kind P x =? PREIMAGE and totality P (node_b P x) =? 1 and concludes_complete p (node_a P x))
      ∷ (λ x y p q. is_private_part x and concludes_disjoint p (private_operand x))
      ∷ []

  -- lemma l is licensed for the nodes x and y and the steps p and q
  unfoldable pub licence : ℕ → ℕ → ℕ → ℕ → ℕ → Bool
  licence l x y p q = get_or licences (l - 1) (λ x y p q. false) x y p q

  -- Stray: an unknown lemma; x and y are nodes, "p and q are earlier steps"
  unfoldable pub step_formed : ℕ → Bool
  step_formed t =
      1 ≤? step_lemma P t and step_lemma P t ≤? 21
      and in_use (lemma_row (step_lemma P t)).x (node_count P) (step_x P t)
      and in_use (lemma_row (step_lemma P t)).y (node_count P) (step_y P t)
      and in_use (lemma_row (step_lemma P t)).p t (step_p P t)
      and in_use (lemma_row (step_lemma P t)).q t (step_q P t)

  -- Unlicensed: "step not by its lemma"
  unfoldable pub step_licensed : ℕ → Bool
  step_licensed t = licence (step_lemma P t) (step_x P t) (step_y P t) (step_p P t) (step_q P t)

  -- "at each step 5, then 10"
  unfoldable pub step_check : ℕ → Outcome
  step_check t = require (step_formed t) (InvalidRecord (7 * 256 + t)) then require (step_licensed t) (UnlicensedStep t)
