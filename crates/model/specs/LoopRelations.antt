-- The words of "Loops" and "Needs" as relations between statements, read off the paper a second time: nothing here uses the verdict's
-- functions, only the accessors of cells. T2 shows that the two readings agree.
use Rattle.std.specs.Prelude.{ℕ, suc, ◌≤◌, ◌<◌, ◌≡◌, ◌⊎◌}
use Rattle.model.specs.Layout.{Plan, node_count, statement_count, source, target, supplied_region, statement_kind, statement_a, statement_b, statement_c, node_kind, node_a, node_b, assigned}

module _ (P : Plan) where
  -- statement s stands in the loop that FOR f opens
  pub record InLoop (f s : ℕ) : Type 0 where
    pub opened : statement_kind P f ≡ 0
    pub after : f ≤ s
    pub nearest : (t : ℕ) → f < t → t ≤ s → statement_kind P t ≡ 0 → ⊥

  -- "Kinds 1 to 3 define that loop's next variable"
  abbrev pub Defining : ℕ → Type 0
  Defining s = (1 ≤ statement_kind P s) × (statement_kind P s ≤ 3)

  -- statement d defines variable v of the loop that FOR f opens; "its variable 0 is the loop variable"
  pub data Variable (f : ℕ) : ℕ → ℕ → Type 0 where
    loop_variable : statement_kind P f ≡ 0 → Variable f f 0
    next_variable :
        {c d v : ℕ} → Variable f c v → c < d → InLoop f d → Defining d → ((t : ℕ) → c < t → t < d → Defining t → ⊥) → Variable f d (suc v)

  -- variable v, as statement s sees it, is the one that statement d defines
  pub record Resolves (s v d : ℕ) : Type 0 where
    pub loop : ℕ
    pub within : InLoop loop s
    pub variable : Variable loop d v
    pub earlier : d < s

  -- "At most 16 variables per loop": statement s defines one of the first 16
  pub record WithinVariableLimit (s : ℕ) : Type 0 where
    pub loop : ℕ
    pub number : ℕ
    pub variable : Variable loop s number
    pub few : number ≤ 15

  -- "A variable belongs to one region: the loop's, the map's target, or the copied one's"
  pub data VariableRegion : ℕ → ℕ → Type 0 where
    of_loop : {d r : ℕ} → statement_kind P d ≡ 0 → r ≡ statement_a P d → VariableRegion d r
    of_load : {d r : ℕ} → statement_kind P d ≡ 1 → r ≡ target P (statement_a P d) → VariableRegion d r
    of_call : {d r : ℕ} → statement_kind P d ≡ 2 → r ≡ target P (statement_a P d) → VariableRegion d r
    of_copy : {d c r : ℕ} → statement_kind P d ≡ 3 → Resolves d (statement_a P d) c → VariableRegion c r → VariableRegion d r

  -- "its variable is 0 or reached from 0 by COPY alone"
  pub data Centered : ℕ → Type 0 where
    loop_centered : {d : ℕ} → statement_kind P d ≡ 0 → Centered d
    copy_centered : {d c : ℕ} → statement_kind P d ≡ 3 → Resolves d (statement_a P d) c → Centered c → Centered d

  -- "LOAD, READ, WRITE and REDUCE are accesses"; "LOAD is also a read .. through its variable b": access s goes through the variable that d defines
  pub data AccessThrough (s d : ℕ) : Type 0 where
    by_load : statement_kind P s ≡ 1 → Resolves s (statement_b P s) d → AccessThrough s d
    directly : 4 ≤ statement_kind P s → statement_kind P s ≤ 6 → Resolves s (statement_a P s) d → AccessThrough s d

  -- access s is of field g: LOAD's "c = field holding the map", "b = field" of READ, WRITE and REDUCE
  pub data AccessField (s g : ℕ) : Type 0 where
    of_load : statement_kind P s ≡ 1 → g ≡ statement_c P s → AccessField s g
    of_read : statement_kind P s ≡ 4 → g ≡ statement_b P s → AccessField s g
    of_write : statement_kind P s ≡ 5 → g ≡ statement_b P s → AccessField s g
    of_reduce : statement_kind P s ≡ 6 → g ≡ statement_b P s → AccessField s g

  -- access s is of "region and field" r and g; `definition` defines its variable
  pub record AccessTarget (s r g : ℕ) : Type 0 where
    pub definition : ℕ
    pub through : AccessThrough s definition
    pub region : VariableRegion definition r
    pub field : AccessField s g

  -- "A loop reduces through a pointer when it has an uncentered REDUCE"
  pub record ReducesThroughPointer (f : ℕ) : Type 0 where
    pub statement : ℕ
    pub definition : ℕ
    pub inside : statement < statement_count P
    pub within : InLoop f statement
    pub reduces : statement_kind P statement ≡ 6
    pub through : AccessThrough statement definition
    pub uncentered : Centered definition → ⊥

  -- "FOR and accesses get symbols"
  abbrev pub HasSymbol : ℕ → Type 0
  HasSymbol s = (statement_kind P s ≡ 0) ⊎ ((statement_kind P s ≡ 1) ⊎ ((4 ≤ statement_kind P s) × (statement_kind P s ≤ 6)))

  -- "0, 1, .. in statement order": k symbols stand before statement s
  pub data SymbolsBefore : ℕ → ℕ → Type 0 where
    none_yet : SymbolsBefore 0 0
    counted : {s k : ℕ} → SymbolsBefore s k → HasSymbol s → SymbolsBefore (suc s) (suc k)
    passed : {s k : ℕ} → SymbolsBefore s k → (HasSymbol s → ⊥) → SymbolsBefore (suc s) k

  -- the region of a symbol: the loop's, or that of the access's variable
  pub data SymbolRegion (s r : ℕ) : Type 0 where
    of_for : statement_kind P s ≡ 0 → r ≡ statement_a P s → SymbolRegion s r
    of_access : {d : ℕ} → AccessThrough s d → VariableRegion d r → SymbolRegion s r

  -- the region of a node: "Image .. has its target; preimage the reverse"
  pub data NodeRegion : ℕ → ℕ → Type 0 where
    of_supplied : {j r : ℕ} → node_kind P j ≡ 0 → r ≡ supplied_region P (node_a P j) → NodeRegion j r
    of_equal : {j r : ℕ} → node_kind P j ≡ 1 → r ≡ node_a P j → NodeRegion j r
    of_operands : {j r : ℕ} → 2 ≤ node_kind P j → node_kind P j ≤ 4 → node_a P j < j → NodeRegion (node_a P j) r → NodeRegion j r
    of_image : {j r : ℕ} → node_kind P j ≡ 5 → r ≡ target P (node_b P j) → NodeRegion j r
    of_preimage : {j r : ℕ} → node_kind P j ≡ 6 → r ≡ source P (node_b P j) → NodeRegion j r

  -- "Variable 0's bound is its FOR's node; LOAD and CALL take the image node of the earlier variable's bound; COPY keeps it"
  pub data Bound : ℕ → ℕ → Type 0 where
    of_for : {d k x : ℕ} → statement_kind P d ≡ 0 → SymbolsBefore d k → x ≡ assigned P k → Bound d x
    of_image :
        {d c x y : ℕ} → (statement_kind P d ≡ 1) ⊎ (statement_kind P d ≡ 2) → Resolves d (statement_b P d) c → Bound c y →
        x < node_count P → node_kind P x ≡ 5 → node_a P x ≡ y → node_b P x ≡ statement_a P d → Bound d x
    of_copy : {d c x : ℕ} → statement_kind P d ≡ 3 → Resolves d (statement_a P d) c → Bound c x → Bound d x
