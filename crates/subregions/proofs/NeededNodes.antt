-- What nodes are made of: the bits of a node's operands, and a pass from the last node down. Assumes nothing.
use Prim.Native.Nat.{ℕ, ◌-◌, ◌^◌, ◌≤◌, ◌<◌}
use mathlib.Core.Path.{sym, ◌∙◌}
use mathlib.Core.Logic.{inl, inr}
use native.Mathlib.Decide.{ℕ_discrete}
use native.Mathlib.Omega.{arith}
use lib.Bits.{bit_or}
use Rattle.model.specs.Tests.{Is}
use Rattle.model.specs.Layout.{Plan, node_count, node_kind, node_a, node_b}
use Rattle.model.specs.Words.{bit}
use Rattle.model.specs.AcceptedPlans.{Facts}
use Rattle.model.specs.PlainPlan.{NodeFormed, supplied_formed, equal_formed, operands_formed, map_formed}
use Rattle.model.proofs.Tests.{falsum, either, one, less! }
use Rattle.model.proofs.Words.{bit_zero}
use Rattle.model.proofs.NodesAgree.{node_formed_lem}
use Rattle.primitives.proofs.Bits.{bit-bit_or, bit_ones}
use Rattle.bitsets.specs.Elements.{OneBit}
use Rattle.subregions.specs.Needed.{OperandBits, OperandsNeeded, NeededFor}

module _ {P : Plan} (F : Facts P) {j : ℕ} (lt : j < node_count P) where
  -- a node's operands come before it
  left_earlier : 2 ≤ node_kind P j → node_a P j < j
  left_earlier two = by ((node_formed_lem P j).0 (F.node_formed_lem j lt))
    where
      by : NodeFormed P j → node_a P j < j
      by (supplied_formed k l r u) = absurd (omega arith)
      by (equal_formed k l r u) = absurd (omega arith)
      by (operands_formed low high l r u) = l
      by (map_formed k l r u) = l

  right_earlier : 2 ≤ node_kind P j → node_kind P j ≤ 4 → node_b P j < j
  right_earlier two four = by ((node_formed_lem P j).0 (F.node_formed_lem j lt))
    where
      by : NodeFormed P j → node_b P j < j
      by (supplied_formed k l r u) = absurd (omega arith)
      by (equal_formed k l r u) = absurd (omega arith)
      by (operands_formed low high l r u) = r
      by (map_formed k l r u) = elim k [ inl e ↦ absurd (omega arith) | inr e ↦ absurd (omega arith) ]

  -- no operand
  pub none_bits : node_kind P j < 2 → OperandBits P j 0
  none_bits few = record { left = λ two. absurd (omega arith); right = λ two four. absurd (omega arith); earlier = λ b h. falsum (sym (bit_zero b) ∙ h) }

  module _ (near : j ≤ 64) {a : ℕ} (A : OneBit (node_a P j) a) where
    -- one, of an image or a preimage
    pub left_bit : 4 < node_kind P j → OperandBits P j a
    left_bit many =
        let before = left_earlier (omega arith) in
        record {
          left = λ two. A.its_bit (omega arith);
          right = λ two four. absurd (omega arith);
          earlier = λ b h. let is = A.no_other b h in omega arith;
        }

    -- both, of kinds 2 to 4
    pub both_bits : {b : ℕ} → OneBit (node_b P j) b → 2 ≤ node_kind P j → node_kind P j ≤ 4 → OperandBits P j (bit_or a b)
    both_bits {b} B low high =
        let left_before = left_earlier low in
        let right_before = right_earlier low high in
        record {
          left = λ two. bit-bit_or a b _ ∙ one (inl (A.its_bit (omega arith)));
          right = λ two four. bit-bit_or a b _ ∙ one (inr (B.its_bit (omega arith)));
          earlier = λ e h. elim (either (sym (bit-bit_or a b e) ∙ h)) [
            | inl x ↦ let is = A.no_other e x in omega arith
            | inr x ↦ let is = B.no_other e x in omega arith
          ];
        }

-- every node, of 64 at most
abbrev pub ALL : ℕ
ALL = 2 ^ 64 - 1

pub all_needed : (k : ℕ) → k < 64 → Is (bit ALL k)
all_needed k l = bit_ones 64 k ∙ less! l

pub all_operands : {P : Plan} {count : ℕ} → Facts P → count ≤ node_count P → count ≤ 64 → OperandsNeeded P count ALL
all_operands F listed few =
    record {
      left = λ j l h two. all_needed _ (omega (arith, left_earlier F {j = j} (omega arith) two));
      right = λ j l h two four. all_needed _ (omega (arith, right_earlier F {j = j} (omega arith) two four));
    }

-- so far: what is wanted is needed, and so are the operands of the needed nodes from j on
pub record PassedDown (P : Plan) (count wanted needed j : ℕ) : Type 0 where
  pub wanted_needed : (b : ℕ) → Is (bit wanted b) → Is (bit needed b)
  pub left : (k : ℕ) → j ≤ k → k < count → Is (bit needed k) → 2 ≤ node_kind P k → Is (bit needed (node_a P k))
  pub right : (k : ℕ) → j ≤ k → k < count → Is (bit needed k) → 2 ≤ node_kind P k → node_kind P k ≤ 4 → Is (bit needed (node_b P k))

module _ {P : Plan} {count wanted : ℕ} where
  module _ {needed j : ℕ} (some : 0 < j) (so_far : PassedDown P count wanted needed j) where
    -- a node that is, with its operands
    module _ {operands : ℕ} (B : OperandBits P (j - 1) operands) where
      more : (b : ℕ) → Is (bit needed b) → Is (bit (bit_or needed operands) b)
      more b h = bit-bit_or needed operands b ∙ one (inl h)

      added : (b : ℕ) → Is (bit operands b) → Is (bit (bit_or needed operands) b)
      added b h = bit-bit_or needed operands b ∙ one (inr h)

      -- the operands come before it, so what comes after it is as before
      before : (k : ℕ) → j ≤ k → Is (bit (bit_or needed operands) k) → Is (bit needed k)
      before k le h =
          elim (either (sym (bit-bit_or needed operands k) ∙ h)) [ inl x ↦ x | inr x ↦ let l = B.earlier k x in absurd (omega arith) ]

      pub passed_with : PassedDown P count wanted (bit_or needed operands) (j - 1)
      passed_with =
          record {
            wanted_needed = λ b h. more b (so_far.wanted_needed b h);
            left = λ k a b h two. elim (ℕ_discrete k (j - 1)) [
              | yes is ↦ rw is (added _ (B.left (rw is at two)))
              | no z ↦ more _ (so_far.left k (omega arith) b (before k (omega arith) h) two)
            ];
            right = λ k a b h two four. elim (ℕ_discrete k (j - 1)) [
              | yes is ↦ rw is (added _ (B.right (rw is at two) (rw is at four)))
              | no z ↦ more _ (so_far.right k (omega arith) b (before k (omega arith) h) two four)
            ];
          }

  pub all_passed : {needed j : ℕ} → j ≤ 0 → PassedDown P count wanted needed j → NeededFor P count wanted needed
  all_passed none S =
      record {
        wanted_needed = S.wanted_needed;
        operands_needed = record { left = λ k l h. S.left k (omega arith) l h; right = λ k l h. S.right k (omega arith) l h };
      }
