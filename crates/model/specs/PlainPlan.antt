-- The four clauses of demand 2 as plain statements: the plan reads by the layout, its loops are parallelizable, each lemma step is
-- licensed, each need is concluded. Each limit, kind and licence is written here again from the paper.
use Rattle.std.specs.Prelude.{ℕ, suc, ◌*◌, ◌≤◌, ◌<◌, ◌≡◌, ◌⊎◌, length}
use Rattle.model.specs.Bytes.{Bytes, byte, boundary, body}
use Rattle.model.specs.Layout.{Plan, plan_of, region_count, map_count, supplied_count, statement_count, node_count, assignment_count, step_count, fields, source, target, totality, supplied_region, supplied_flags, statement_kind, statement_a, statement_b, statement_c, node_kind, node_a, node_b, node_unused, assigned, step_lemma, step_x, step_y, step_p, step_q}
use Rattle.model.specs.LoopRelations.{InLoop, Resolves, WithinVariableLimit, VariableRegion, Centered, AccessThrough, AccessTarget, ReducesThroughPointer, HasSymbol, SymbolsBefore, SymbolRegion, NodeRegion, Bound}

-- the table of sections: "record bytes" and "most" of each, and "least 1" of the regions
pub data SectionLength (section n : ℕ) : Type 0 where
  regions : section ≡ 1 → 1 ≤ n → n ≤ 16 → SectionLength section n
  maps : {k : ℕ} → section ≡ 2 → n ≡ k * 3 → k ≤ 16 → SectionLength section n
  supplied : {k : ℕ} → section ≡ 3 → n ≡ k * 2 → k ≤ 8 → SectionLength section n
  statements : {k : ℕ} → section ≡ 4 → n ≡ k * 4 → k ≤ 64 → SectionLength section n
  nodes : {k : ℕ} → section ≡ 5 → n ≡ k * 4 → k ≤ 48 → SectionLength section n
  assignments : section ≡ 6 → n ≤ 64 → SectionLength section n
  steps : {k : ℕ} → section ≡ 7 → n ≡ k * 5 → k ≤ 128 → SectionLength section n

-- "Every SUB uses y, and so do 15 and 19; 6, 8, 10 and 12 to 20 use p; 6, 8, 10, 15 and 19 use q"; 21 uses p
abbrev pub UsesY : ℕ → Type 0
UsesY l = ((5 ≤ l) × (l ≤ 14)) ⊎ ((l ≡ 15) ⊎ (l ≡ 19))

abbrev pub UsesP : ℕ → Type 0
UsesP l = (l ≡ 6) ⊎ ((l ≡ 8) ⊎ ((l ≡ 10) ⊎ ((12 ≤ l) × (l ≤ 21))))

abbrev pub UsesQ : ℕ → Type 0
UsesQ l = (l ≡ 6) ⊎ ((l ≡ 8) ⊎ ((l ≡ 10) ⊎ ((l ≡ 15) ⊎ (l ≡ 19))))

module _ (P : Plan) where
  -- section 4, by kind: numbers that are there, fields of the variable's region, "operator 0 add, 1 multiply, 2 least, 3 greatest"
  pub data StatementFormed (s : ℕ) : Type 0 where
    for_formed :
        statement_kind P s ≡ 0 → statement_a P s < region_count P → statement_b P s ≡ 0 → statement_c P s ≡ 0 → StatementFormed s
    load_formed :
        {d r : ℕ} → statement_kind P s ≡ 1 → statement_a P s < map_count P → Resolves P s (statement_b P s) d → WithinVariableLimit P s →
        VariableRegion P d r → statement_c P s < fields P r → StatementFormed s
    call_formed :
        {d : ℕ} → statement_kind P s ≡ 2 → statement_a P s < map_count P → Resolves P s (statement_b P s) d → WithinVariableLimit P s →
        statement_c P s ≡ 0 → StatementFormed s
    copy_formed :
        {d : ℕ} → statement_kind P s ≡ 3 → Resolves P s (statement_a P s) d → WithinVariableLimit P s → statement_b P s ≡ 0 → statement_c P s ≡ 0 → StatementFormed s
    read_or_write_formed :
        {d r : ℕ} → (statement_kind P s ≡ 4) ⊎ (statement_kind P s ≡ 5) → Resolves P s (statement_a P s) d → VariableRegion P d r →
        statement_b P s < fields P r → statement_c P s ≡ 0 → StatementFormed s
    reduce_formed :
        {d r : ℕ} → statement_kind P s ≡ 6 → Resolves P s (statement_a P s) d → VariableRegion P d r →
        statement_b P s < fields P r → statement_c P s ≤ 3 → StatementFormed s

  -- "LOAD and CALL need a variable of the map's source"
  abbrev pub StatementAgrees : ℕ → Type 0
  StatementAgrees s =
      (statement_kind P s ≡ 1) ⊎ (statement_kind P s ≡ 2) →
      (d : ℕ) → Resolves P s (statement_b P s) d → VariableRegion P d (source P (statement_a P s))

  -- the three conditions of the loop that FOR f opens
  pub record ParallelizableLoop (f : ℕ) : Type 0 where
    -- "each WRITE is centered"
    pub writes_centered :
        (s d : ℕ) → s < statement_count P → InLoop P f s → statement_kind P s ≡ 5 → AccessThrough P s d → Centered P d
    -- a "region and field" with "an uncentered REDUCE has no other access in the loop but uncentered REDUCEs of the same operator"
    pub reductions_alone :
        (s t r g : ℕ) → s < statement_count P → t < statement_count P → InLoop P f s → InLoop P f t →
        (x : AccessTarget P s r g) → (y : AccessTarget P t r g) → statement_kind P s ≡ 6 → (Centered P x.definition → ⊥) →
        (statement_kind P t ≡ 6) × (Centered P y.definition → ⊥) × (statement_c P t ≡ statement_c P s)
    -- one with "an uncentered read has no WRITE or REDUCE in the loop"
    pub reads_undisturbed :
        (s t r g : ℕ) → s < statement_count P → t < statement_count P → InLoop P f s → InLoop P f t →
        (x : AccessTarget P s r g) → AccessTarget P t r g →
        (statement_kind P s ≡ 1) ⊎ (statement_kind P s ≡ 4) → (Centered P x.definition → ⊥) →
        (statement_kind P t ≡ 5) ⊎ (statement_kind P t ≡ 6) → ⊥

  -- section 5, by kind
  pub data NodeFormed (j : ℕ) : Type 0 where
    supplied_formed : node_kind P j ≡ 0 → node_a P j < supplied_count P → node_b P j ≡ 0 → node_unused P j ≡ 0 → NodeFormed j
    equal_formed : node_kind P j ≡ 1 → node_a P j < region_count P → node_b P j ≡ 0 → node_unused P j ≡ 0 → NodeFormed j
    operands_formed : 2 ≤ node_kind P j → node_kind P j ≤ 4 → node_a P j < j → node_b P j < j → node_unused P j ≡ 0 → NodeFormed j
    map_formed :
        (node_kind P j ≡ 5) ⊎ (node_kind P j ≡ 6) → node_a P j < j → node_b P j < map_count P → node_unused P j ≡ 0 → NodeFormed j

  -- "Kinds 2 to 4 need one region. Image needs a of the map's source and has its target; preimage the reverse"
  pub record NodeAgrees (j : ℕ) : Type 0 where
    pub one_region :
        2 ≤ node_kind P j → node_kind P j ≤ 4 → (r : ℕ) × NodeRegion P (node_a P j) r × NodeRegion P (node_b P j) r
    pub image_source : node_kind P j ≡ 5 → NodeRegion P (node_a P j) (source P (node_b P j))
    pub preimage_target : node_kind P j ≡ 6 → NodeRegion P (node_a P j) (target P (node_b P j))

  -- records j and k of section 5 are equal
  pub record SameNode (j k : ℕ) : Type 0 where
    pub kind : node_kind P j ≡ node_kind P k
    pub a : node_a P j ≡ node_a P k
    pub b : node_b P j ≡ node_b P k
    pub unused : node_unused P j ≡ node_unused P k

  -- "Conclusions are SUB(x, y), DISJ(x) or COMP(x)": 5 to 14 conclude SUB; 1, 3, 15 to 18 and 21 DISJ; 2, 4, 19 and 20 COMP
  pub record ConcludesSubset (t x y : ℕ) : Type 0 where
    pub low : 5 ≤ step_lemma P t
    pub high : step_lemma P t ≤ 14
    pub x_is : step_x P t ≡ x
    pub y_is : step_y P t ≡ y

  pub record ConcludesDisjoint (t x : ℕ) : Type 0 where
    pub lemma :
        (step_lemma P t ≡ 1) ⊎ ((step_lemma P t ≡ 3) ⊎ (((15 ≤ step_lemma P t) × (step_lemma P t ≤ 18)) ⊎ (step_lemma P t ≡ 21)))
    pub x_is : step_x P t ≡ x

  pub record ConcludesComplete (t x : ℕ) : Type 0 where
    pub lemma :
        (step_lemma P t ≡ 2) ⊎ ((step_lemma P t ≡ 4) ⊎ ((step_lemma P t ≡ 19) ⊎ (step_lemma P t ≡ 20)))
    pub x_is : step_x P t ≡ x

  -- section 7: a known lemma, nodes x and y, "p and q are earlier steps", "Unused bytes are 0"
  pub record StepFormed (t : ℕ) : Type 0 where
    pub known : (1 ≤ step_lemma P t) × (step_lemma P t ≤ 21)
    pub x_node : step_x P t < node_count P
    pub y_node : UsesY (step_lemma P t) → step_y P t < node_count P
    pub y_unused : (UsesY (step_lemma P t) → ⊥) → step_y P t ≡ 0
    pub p_earlier : UsesP (step_lemma P t) → step_p P t < t
    pub p_unused : (UsesP (step_lemma P t) → ⊥) → step_p P t ≡ 0
    pub q_earlier : UsesQ (step_lemma P t) → step_q P t < t
    pub q_unused : (UsesQ (step_lemma P t) → ⊥) → step_q P t ≡ 0

  -- node j has these numbers: kind, a, b
  pub record NodeIs (j kind a b : ℕ) : Type 0 where
    pub kind_is : node_kind P j ≡ kind
    pub a_is : node_a P j ≡ a
    pub b_is : node_b P j ≡ b

  -- "x is F minus the image under f of (G minus P), where F is the image of P under f and G the preimage of F under f", P being the operand
  pub record PrivatePart (x operand : ℕ) : Type 0 where
    pub image : ℕ
    pub shared : ℕ
    pub rest : ℕ
    pub preimage : ℕ
    pub map : ℕ
    pub x_is : NodeIs x 4 image shared
    pub shared_is : NodeIs shared 5 rest map
    pub rest_is : NodeIs rest 4 preimage operand
    pub image_is : NodeIs image 5 operand map
    pub preimage_is : NodeIs preimage 6 image map

  -- the list of lemmas, a clause each: lemma l is licensed for nodes x, y and steps p, q
  pub data Licence (l x y p q : ℕ) : Type 0 where
    lemma_1 : l ≡ 1 → node_kind P x ≡ 1 → Licence l x y p q
    lemma_2 : l ≡ 2 → node_kind P x ≡ 1 → Licence l x y p q
    lemma_3 :
        l ≡ 3 → node_kind P x ≡ 0 → (supplied_flags P (node_a P x) ≡ 1) ⊎ (supplied_flags P (node_a P x) ≡ 3) → Licence l x y p q
    lemma_4 :
        l ≡ 4 → node_kind P x ≡ 0 → (supplied_flags P (node_a P x) ≡ 2) ⊎ (supplied_flags P (node_a P x) ≡ 3) → Licence l x y p q
    lemma_5 : l ≡ 5 → y ≡ x → Licence l x y p q
    lemma_6 : {z : ℕ} → l ≡ 6 → ConcludesSubset p x z → ConcludesSubset q z y → Licence l x y p q
    lemma_7 : l ≡ 7 → node_kind P y ≡ 2 → (node_a P y ≡ x) ⊎ (node_b P y ≡ x) → Licence l x y p q
    lemma_8 :
        l ≡ 8 → node_kind P x ≡ 2 → ConcludesSubset p (node_a P x) y → ConcludesSubset q (node_b P x) y → Licence l x y p q
    lemma_9 : l ≡ 9 → node_kind P x ≡ 3 → (node_a P x ≡ y) ⊎ (node_b P x ≡ y) → Licence l x y p q
    lemma_10 :
        l ≡ 10 → node_kind P y ≡ 3 → ConcludesSubset p x (node_a P y) → ConcludesSubset q x (node_b P y) → Licence l x y p q
    lemma_11 : l ≡ 11 → node_kind P x ≡ 4 → node_a P x ≡ y → Licence l x y p q
    lemma_12 :
        l ≡ 12 → node_kind P x ≡ 5 → node_kind P y ≡ 5 → node_b P x ≡ node_b P y → ConcludesSubset p (node_a P x) (node_a P y) → Licence l x y p q
    lemma_13 :
        l ≡ 13 → node_kind P x ≡ 6 → node_kind P y ≡ 6 → node_b P x ≡ node_b P y → ConcludesSubset p (node_a P x) (node_a P y) → Licence l x y p q
    lemma_14 :
        {z : ℕ} → l ≡ 14 → node_kind P x ≡ 5 → node_kind P z ≡ 6 → node_a P z ≡ y → node_b P z ≡ node_b P x →
        ConcludesSubset p (node_a P x) z → Licence l x y p q
    lemma_15 : l ≡ 15 → ConcludesDisjoint p y → ConcludesSubset q x y → Licence l x y p q
    lemma_16 :
        l ≡ 16 → node_kind P x ≡ 3 → ConcludesDisjoint p (node_a P x) ⊎ ConcludesDisjoint p (node_b P x) → Licence l x y p q
    lemma_17 : l ≡ 17 → node_kind P x ≡ 4 → ConcludesDisjoint p (node_a P x) → Licence l x y p q
    lemma_18 : l ≡ 18 → node_kind P x ≡ 6 → ConcludesDisjoint p (node_a P x) → Licence l x y p q
    lemma_19 : l ≡ 19 → ConcludesComplete p y → ConcludesSubset q y x → Licence l x y p q
    lemma_20 :
        l ≡ 20 → node_kind P x ≡ 6 → totality P (node_b P x) ≡ 1 → ConcludesComplete p (node_a P x) → Licence l x y p q
    -- 001's Theorem 5.1
    lemma_21 : {operand : ℕ} → l ≡ 21 → PrivatePart x operand → ConcludesDisjoint p operand → Licence l x y p q

  -- what the symbol of statement s needs is concluded by steps
  pub record NeedsConcluded (s : ℕ) : Type 0 where
    -- "FOR needs COMP of its node"
    pub complete :
        (k : ℕ) → statement_kind P s ≡ 0 → SymbolsBefore P s k → (t : ℕ) × (t < step_count P) × ConcludesComplete t (assigned P k)
    -- "and DISJ .. if the loop has an uncentered REDUCE"
    pub disjoint :
        (k : ℕ) → statement_kind P s ≡ 0 → SymbolsBefore P s k → ReducesThroughPointer P s →
        (t : ℕ) × (t < step_count P) × ConcludesDisjoint t (assigned P k)
    -- "An access needs SUB(bound, its node)"; "An image node that is not listed makes that need unmet"
    pub contained :
        (d k : ℕ) → AccessThrough P s d → SymbolsBefore P s k →
        (x t : ℕ) × Bound P d x × (x < node_count P) × (t < step_count P) × ConcludesSubset t x (assigned P k)

-- a plan's bytes read by the layout
pub record WellFormed (p : Bytes) : Type 0 where
  pub some_byte : 1 ≤ length p
  pub edition : byte p 0 ≡ 1
  pub sections_end : (n : ℕ) → n < 7 → boundary p (suc n) ≤ length p
  pub section_lengths : (n : ℕ) → n < 7 → SectionLength (suc n) (length (body p n))
  pub nothing_after : length p ≡ boundary p 7
  pub regions : (r : ℕ) → r < region_count (plan_of p) → (1 ≤ fields (plan_of p) r) × (fields (plan_of p) r ≤ 8)
  pub maps :
      (m : ℕ) → m < map_count (plan_of p) →
      (source (plan_of p) m < region_count (plan_of p)) × (target (plan_of p) m < region_count (plan_of p)) ×
      ((totality (plan_of p) m ≡ 0) ⊎ (totality (plan_of p) m ≡ 1))
  pub supplied :
      (k : ℕ) → k < supplied_count (plan_of p) →
      (supplied_region (plan_of p) k < region_count (plan_of p)) × (supplied_flags (plan_of p) k ≤ 3)
  pub statements : (s : ℕ) → s < statement_count (plan_of p) → StatementFormed (plan_of p) s × StatementAgrees (plan_of p) s
  pub nodes : (j : ℕ) → j < node_count (plan_of p) → NodeFormed (plan_of p) j × NodeAgrees (plan_of p) j
  pub nodes_differ : (j k : ℕ) → j < node_count (plan_of p) → k < j → SameNode (plan_of p) k j → ⊥
  -- "section 6 assigns each a node of its region"
  pub one_assignment_each : SymbolsBefore (plan_of p) (statement_count (plan_of p)) (assignment_count (plan_of p))
  pub assignments :
      (s k : ℕ) → s < statement_count (plan_of p) → HasSymbol (plan_of p) s → SymbolsBefore (plan_of p) s k →
      (assigned (plan_of p) k < node_count (plan_of p)) ×
      ((r : ℕ) → SymbolRegion (plan_of p) s r → NodeRegion (plan_of p) (assigned (plan_of p) k) r)
  pub steps : (t : ℕ) → t < step_count (plan_of p) → StepFormed (plan_of p) t

-- demand 2: its loops are parallelizable
abbrev pub Parallelizable : Bytes → Type 0
Parallelizable p = (f : ℕ) → f < statement_count (plan_of p) → statement_kind (plan_of p) f ≡ 0 → ParallelizableLoop (plan_of p) f

-- demand 2: each lemma step is licensed
abbrev pub Licensed : Bytes → Type 0
Licensed p =
    (t : ℕ) → t < step_count (plan_of p) →
    Licence (plan_of p) (step_lemma (plan_of p) t) (step_x (plan_of p) t) (step_y (plan_of p) t) (step_p (plan_of p) t) (step_q (plan_of p) t)

-- demand 2: each need inferred from the loops is concluded by a step
abbrev pub Concluded : Bytes → Type 0
Concluded p = (s : ℕ) → s < statement_count (plan_of p) → NeedsConcluded (plan_of p) s
