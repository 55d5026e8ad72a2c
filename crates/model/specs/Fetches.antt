-- What is charged for as plain statements: which elements are fetched, and how many they are.
use Rattle.std.specs.Prelude.{ℕ, ◌≤◌, ◌<◌, ◌≡◌}
use Rattle.model.specs.Layout.{Plan, node_count}
use Rattle.model.specs.DataSets.{DataSet, pieces}
use Rattle.model.specs.LoopRelations.{NodeRegion}
use Rattle.model.specs.Grounds.{PairExists}
use Rattle.model.specs.declared.Transfer.{Transfer}

-- two nodes exist
pub record BothExist (P : Plan) (t : Transfer) : Type 0 where
  pub accessed_exists : t.accessed < node_count P
  pub owned_exists : t.owned < node_count P

-- and are of one region
abbrev pub OneRegion : Plan → Transfer → Type 0
OneRegion P t = (r s : ℕ) → NodeRegion P t.accessed r → NodeRegion P t.owned s → r ≡ s

-- "a node for what is accessed, a node for what is owned and a price .. from 0 to 1,000,000"
pub record Chargeable (P : Plan) (t : Transfer) : Type 0 where
  pub both_exist : BothExist P t
  pub one_region : OneRegion P t
  pub price_listed : t.price ≤ 1000000

-- element e of piece i is one "of each accessed piece that the same owned piece lacks"; `In` says what is in the nodes' pieces
pub record Fetched (P : Plan) (D : DataSet) (In : ℕ → ℕ → ℕ → Type 0) (t : Transfer) (i e : ℕ) : Type 0 where
  pub piece_exists : i < pieces D
  pub element_exists : PairExists P D t.accessed e
  pub accessed : In t.accessed i e
  pub lacking : In t.owned i e → ⊥

-- there are n pairs (piece, element) of which Q is so: numbered from 0, each number stands for one of them, and each has one number
pub record Numbered (Q : ℕ → ℕ → Type 0) (n : ℕ) : Type 0 where
  pub piece : ℕ → ℕ
  pub element : ℕ → ℕ
  pub each_is : (k : ℕ) → k < n → Q (piece k) (element k)
  pub all_have : (i e : ℕ) → Q i e → (k : ℕ) × (k < n) × (piece k ≡ i) × (element k ≡ e)
  pub only_one : (k l : ℕ) → k < n → l < n → piece k ≡ piece l → element k ≡ element l → k ≡ l
