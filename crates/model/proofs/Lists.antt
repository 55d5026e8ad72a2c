-- Lists one after the other, and lists of values: how long they are, what stands where, and when a list is such a one. Assumes nothing.
use Prim.Native.Nat.{ℕ, zero, suc, ◌+◌, ◌*◌, ◌≤◌, ◌<◌}
use mathlib.Core.Path.{◌≡◌, refl, sym, ap, ap₂, ◌∙◌}
use mathlib.Core.List.{List, [], ◌∷◌, ◌++◌, map}
use native.Mathlib.Nat.{mul-le-mul_right}
use native.Mathlib.Decide.{dec_lt}
use native.Mathlib.Omega.{arith}
use lib.ListN.{length, get_or, take, drop, length-append, length-take, length-drop, take-append-drop, get_or-append, get_or-eq_default}
use lib.Seq.{get_or-append-add, get_or-take, get_or-drop, ext_get_or}
use Rattle.model.specs.Encoding.{concatenation, tabulate}

module _ {A : Type 0} where
  -- where list m begins
  pub start : List (List A) → ℕ → ℕ
  start lists zero = 0
  start lists (suc m) = start lists m + length (get_or lists m [])

  pub start_first : (lists : List (List A)) → start lists 0 ≡ 0
  unfolding start
  start_first lists = refl

  pub start_next : (lists : List (List A)) (m : ℕ) → start lists (suc m) ≡ start lists m + length (get_or lists m [])
  unfolding start
  start_next lists m = refl

  start_behind : (list : List A) (lists : List (List A)) (m : ℕ) → start (list ∷ lists) (suc m) ≡ length list + start lists m
  unfolding start
  start_behind list lists zero = omega arith
  start_behind list lists (suc m) = omega (arith, start_behind list lists m)

  pub length-concatenation : (lists : List (List A)) → length (concatenation lists) ≡ start lists (length lists)
  unfolding start
  length-concatenation [] = refl
  length-concatenation (list ∷ lists) =
      omega (arith, length-append list (concatenation lists), length-concatenation lists, start_behind list lists (length lists))

  pub start_most : (lists : List (List A)) (m : ℕ) → start lists m ≤ length (concatenation lists)
  unfolding start
  start_most lists zero = omega arith
  start_most [] (suc m) = omega (arith, start_most [] m)
  start_most (list ∷ lists) (suc m) =
      omega (arith, length-append list (concatenation lists), start_most lists m, start_behind list lists m)

  -- a function that grows by the lists' lengths says where they begin
  pub start_is :
      (lists : List (List A)) (place : ℕ → ℕ) (n : ℕ) → place 0 ≡ 0 →
      ((m : ℕ) → m < n → place (suc m) ≡ place m + length (get_or lists m [])) → (m : ℕ) → m ≤ n → start lists m ≡ place m
  unfolding start
  start_is lists place n first next zero le = sym first
  start_is lists place n first next (suc m) le = omega (arith, start_is lists place n first next m (omega arith), next m le)

  -- a list with a place in it is there
  pub list_there : (lists : List (List A)) (m k : ℕ) → k < length (get_or lists m []) → m < length lists
  list_there [] m k lt = absurd (omega arith)
  list_there (list ∷ lists) zero k lt = omega arith
  list_there (list ∷ lists) (suc m) k lt = omega (arith, list_there lists m k lt)

  -- what stands at k places behind the start of list m
  pub within_list :
      (lists : List (List A)) (m k at : ℕ) (d : A) → k < length (get_or lists m []) → at ≡ start lists m + k →
      get_or (concatenation lists) at d ≡ get_or (get_or lists m []) k d
  unfolding start
  within_list [] m k at d lt e = absurd (omega arith)
  within_list (list ∷ lists) zero k at d lt e =
      let here : at ≡ k = omega arith in
      rw here (get_or-append list (concatenation lists) d k lt)
  within_list (list ∷ lists) (suc m) k at d lt e =
      let behind : at ≡ length list + (start lists m + k) = omega (arith, start_behind list lists m) in
      rw behind (get_or-append-add list (concatenation lists) (start lists m + k) d ∙ within_list lists m k (start lists m + k) d lt refl)

  -- a list with these lists' elements, each at its place
  pub is_concatenation :
      (lists : List (List A)) (s : List A) (d : A) → length s ≡ length (concatenation lists) →
      ((m k : ℕ) → k < length (get_or lists m []) → get_or s (start lists m + k) d ≡ get_or (get_or lists m []) k d) → s ≡ concatenation lists
  is_concatenation [] s d len at = ext_get_or d s [] len (λ i lt. absurd (omega arith))
  is_concatenation (list ∷ lists) s d len at =
      sym (take-append-drop (length list) s)
      ∙ ap₂ (λ (a b : List A). a ++ b)
      (ext_get_or d (take (length list) s) list long (λ i lt. front i (rw long at lt)))
      (is_concatenation lists (drop (length list) s) d (omega (arith, length-drop (length list) s, whole)) (λ m k lt.
      get_or-drop (length list) s (start lists m + k) d ∙ ap (λ (i : ℕ). get_or s i d) (behind m k) ∙ at (suc m) k lt))
    where
      whole : length s ≡ length list + length (concatenation lists)
      whole = len ∙ length-append list (concatenation lists)

      long : length (take (length list) s) ≡ length list
      long = simp length-take (omega (arith, whole))

      here : (i : ℕ) → i ≡ start (list ∷ lists) 0 + i
      here i = omega (arith, start_first (list ∷ lists))

      front : (i : ℕ) → i < length list → get_or (take (length list) s) i d ≡ get_or list i d
      front i lt = get_or-take (length list) s i d lt ∙ ap (λ (j : ℕ). get_or s j d) (here i) ∙ at 0 i lt

      behind : (m k : ℕ) → length list + (start lists m + k) ≡ start (list ∷ lists) (suc m) + k
      behind m k = omega (arith, start_behind list lists m)

  -- lists of one width
  module _ (width : ℕ) (lists : List (List A)) (widths : (r : ℕ) → r < length lists → length (get_or lists r []) ≡ width) where
    pub start_of_widths : (r : ℕ) → r ≤ length lists → start lists r ≡ r * width
    start_of_widths = start_is lists (λ r. r * width) (length lists) (omega arith) (λ r lt. omega (arith, widths r lt))

    pub length_of_widths : length (concatenation lists) ≡ length lists * width
    length_of_widths = length-concatenation lists ∙ start_of_widths (length lists) (omega arith)

    -- element c of list r; behind the last list neither has one
    pub cell_at : (r c at : ℕ) (d : A) → c < width → at ≡ r * width + c → get_or (concatenation lists) at d ≡ get_or (get_or lists r []) c d
    cell_at r c at d lt e = go (dec_lt r (length lists))
      where
        go : Dec (r < length lists) → get_or (concatenation lists) at d ≡ get_or (get_or lists r []) c d
        go (yes here) =
            within_list lists r c at d (omega (arith, widths r here)) (omega (arith, start_of_widths r (omega arith)))
        go (no past) =
            let beyond : length lists ≤ r = omega arith in
            get_or-eq_default (concatenation lists) d (omega (arith, length_of_widths, mul-le-mul_right width beyond))
            ∙ sym (ap (λ (list : List A). get_or list c d) (get_or-eq_default lists [] beyond))

  -- lists of values
  pub length-tabulate : (n : ℕ) (value : ℕ → A) → length (tabulate n value) ≡ n
  length-tabulate zero value = refl
  length-tabulate (suc n) value = ap suc (length-tabulate n (λ k. value (suc k)))

  pub get_d_tabulate : (n : ℕ) (value : ℕ → A) (k : ℕ) (d : A) → k < n → get_or (tabulate n value) k d ≡ value k
  get_d_tabulate zero value k d lt = absurd (omega arith)
  get_d_tabulate (suc n) value zero d lt = refl
  get_d_tabulate (suc n) value (suc k) d lt = get_d_tabulate n (λ k. value (suc k)) k d (omega arith)

  -- what is so of the default and of each element of the parts is so of each element of the whole
  module _ (Q : A → Type 0) (d : A) (default : Q d) where
    pub each_tabulate : (n : ℕ) (value : ℕ → A) → ((k : ℕ) → k < n → Q (value k)) → (k : ℕ) → Q (get_or (tabulate n value) k d)
    each_tabulate zero value each k = default
    each_tabulate (suc n) value each zero = each 0 (omega arith)
    each_tabulate (suc n) value each (suc k) = each_tabulate n (λ k. value (suc k)) (λ k lt. each (suc k) (omega arith)) k

    pub each_take : (n : ℕ) (s : List A) → ((i : ℕ) → Q (get_or s i d)) → (i : ℕ) → Q (get_or (take n s) i d)
    each_take zero s each i = default
    each_take (suc n) [] each i = default
    each_take (suc n) (x ∷ s) each zero = each 0
    each_take (suc n) (x ∷ s) each (suc i) = each_take n s (λ i. each (suc i)) i

    pub each_append :
        (s t : List A) → ((i : ℕ) → Q (get_or s i d)) → ((i : ℕ) → Q (get_or t i d)) → (i : ℕ) → Q (get_or (s ++ t) i d)
    each_append [] t of-s of-t i = of-t i
    each_append (x ∷ s) t of-s of-t zero = of-s 0
    each_append (x ∷ s) t of-s of-t (suc i) = each_append s t (λ i. of-s (suc i)) of-t i

    pub each_concatenation : (lists : List (List A)) → ((m i : ℕ) → Q (get_or (get_or lists m []) i d)) → (i : ℕ) → Q (get_or (concatenation lists) i d)
    each_concatenation [] each = λ i. default
    each_concatenation (list ∷ lists) each =
        each_append list (concatenation lists) (each 0) (each_concatenation lists (λ m. each (suc m)))

    pub each_mapped :
        {B : Type 0} (f : B → List A) (list : List B) (b : B) → ((m : ℕ) → m < length list → (i : ℕ) → Q (get_or (f (get_or list m b)) i d)) →
        (i : ℕ) → Q (get_or (concatenation (map f list)) i d)
    each_mapped f [] b each = λ i. default
    each_mapped f (x ∷ list) b each =
        each_append (f x) (concatenation (map f list)) (each 0 (omega arith)) (each_mapped f list b (λ m lt. each (suc m) (omega arith)))

pub get_d_map : {A B : Type 0} (f : A → B) (list : List A) (k : ℕ) (a : A) (b : B) → k < length list → get_or (map f list) k b ≡ f (get_or list k a)
get_d_map f [] k a b lt = absurd (omega arith)
get_d_map f (x ∷ list) zero a b lt = refl
get_d_map f (x ∷ list) (suc k) a b lt = get_d_map f list k a b (omega arith)
