-- A test of all numbers of a range, as a list of them and one by one. Assumes nothing.
use Rattle.std.proofs.Common.{ℕ, zero, suc, ◌+◌, ◌≡◌, Bool, ◌&&◌, add-zero, add-one, arith}
use Rattle.std.proofs.Math.Bool.{and-true, and_assoc}
use Rattle.std.specs.List.{list_all, range_with_len}
use Rattle.model.specs.Tests.{every, ◌and◌}

from_every : (test : ℕ → Bool) (k n : ℕ) → every k test && list_all test (range_with_len k n) ≡ every (k + n) test
unfolding every ◌and◌
from_every test k zero = rw (add-zero, and-true)
from_every test k (suc n) =
    let e : k + suc n ≡ suc k + n = omega arith in
    rw (e, ← from_every test (suc k) n, add-one k, and_assoc)

pub listed_every : (test : ℕ → Bool) (n : ℕ) → list_all test (range_with_len 0 n) ≡ every n test
unfolding every
listed_every test n = let e : 0 + n ≡ n = omega arith in rw e at (from_every test 0 n)
