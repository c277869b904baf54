-- What contracts see of the stages above a link whose source may be lost: the live rows, and below them the tables of losses
-- whose deletes weren't sent yet (NSDI 2005, section 5.1.2).
use Rattle.std.specs.Prelude.{◌≡◌, ℕ, ◌+◌, ◌==◌, ◌<◌, cond, false, if◌then◌else◌, List, [], ◌∷◌, ◌⊎◌, Option, Some, None, option_map, refl}
use Rattle.std.specs.List.{AllByRecursion, count_by}
use Rattle.std.specs.Coded.{Coded, code_by, coded×, coded_list}
use Rattle.std.specs.FinMap as map
use Rattle.std.specs.FinMap.{FinMap}
use Rattle.addr4.specs.Prefixes.{AddressPrefix, prefix_cmp, address_prefix_code}
use Rattle.link_change.specs.Rows.{Rows, is_empty_map}
use Rattle.pass_core.specs.Passed.{is_beyond}
use Rattle.loss_chain.specs.Lost.{Lost, lost_code}
use Rattle.loss_chain.specs.Covering.{covered, AreApart}
use Rattle.journal_text.specs.declared.link.Link.TheVariants as names
use Rattle.journal_text.specs.Lines.{Value}
use Rattle.journal_text.specs.Walk.{Links}
use Rattle.loss_chain.specs.declared.owner.Owner.{Owner}
use Rattle.loss_chain.specs.declared.owner.Owner.TheVariants.{Peer, Origin}
use Rattle.loss_chain.specs.Owners.{same_proto, is_owned}
use Rattle.journal_text.specs.Values.{valued}

-- the live rows, and the lost tables, the lowest first: that of the earliest loss
pub record Tables (R : Type 0) : Type 0 where
  pub live : FinMap prefix_cmp R
  pub deletions : List (Lost R)

abbrev pub tables_code : {R : Type 0} → Coded R → Coded (Tables R)
tables_code {R} c =
    code_by (FinMap prefix_cmp R × List (Lost R)) (coded× (map.code address_prefix_code c) (coded_list (lost_code c)))
    (λ t. (t.live, t.deletions)) (λ p. record { live = p.0; deletions = p.1 }) (λ _. refl)

-- the rows of the link below these lost tables
abbrev pub rows_below : {R : Type 0} → FinMap prefix_cmp R → List (Lost R) → Rows R
rows_below live [] = map.get live
rows_below live (d ∷ ds) = covered (map.get d.rows) (rows_below live ds)

-- the rows of the link into the stage of a loss
abbrev pub rows_above : {R : Type 0} → FinMap prefix_cmp R → ℕ → List (Lost R) → Option (Rows R)
rows_above live number [] = None
rows_above live number (d ∷ ds) = if d.number == number then Some (rows_below live ds) else rows_above live number ds

-- the rows of the lowest link
abbrev pub lowest_rows : {R : Type 0} → Tables R → Rows R
lowest_rows t = rows_below t.live t.deletions

-- the links of the chain: the lowest, and one into the stage of each loss
abbrev pub chain_links : {R : Type 0} → (R → Value) → Owner → Tables R → Links Value
chain_links value (Peer k) t (names.In j) = cond (j == k) (Some (valued value (lowest_rows t))) None
chain_links value (Peer k) t (names.Peer j s) = cond (j == k) (option_map (valued value) (rows_above t.live s t.deletions)) None
chain_links value (Peer k) t other = None
chain_links value (Origin proto) t (names.Org p) = cond (same_proto p proto) (Some (valued value (lowest_rows t))) None
chain_links value (Origin proto) t (names.Lost p n) = cond (same_proto p proto) (option_map (valued value) (rows_above t.live n t.deletions)) None
chain_links value (Origin proto) t other = None

-- the chain's links beside those of the other parts of the router
abbrev pub beside_chain : {R : Type 0} → (R → Value) → Owner → Links Value → Tables R → Links Value
beside_chain value o others t link = cond (is_owned o link) (chain_links value o t link) (others link)

-- each lost table is apart from the rows above it
abbrev pub AreAllApart : {R : Type 0} → FinMap prefix_cmp R → List (Lost R) → Type 0
AreAllApart live [] = Unit {0}
AreAllApart live (d ∷ ds) = AreApart (map.get d.rows) (rows_below live ds) × AreAllApart live ds

-- each loss is later than those of the tables below it
abbrev pub AreRising : {R : Type 0} → List (Lost R) → Type 0
AreRising [] = Unit {0}
AreRising (d ∷ ds) = AllByRecursion (λ later. d.number < later.number) ds × AreRising ds

-- what holds of a chain between two calls
pub record IsLossChain {R : Type 0} (t : Tables R) : Type 0 where
  pub apart : AreAllApart t.live t.deletions
  pub rising : AreRising t.deletions

-- no lost table is empty
abbrev pub NoneEmpty : {R : Type 0} → List (Lost R) → Type 0
NoneEmpty ds = AllByRecursion (λ d. is_empty_map d.rows ≡ false) ds

-- at most one lost table is empty
abbrev pub OneEmptyAtMost : {R : Type 0} → List (Lost R) → Type 0
OneEmptyAtMost [] = Unit {0}
OneEmptyAtMost (d ∷ ds) = (NoneEmpty ds) ⊎ ((is_empty_map d.rows ≡ false) × OneEmptyAtMost ds)

-- how many rows the tables have together
abbrev pub lost_count : {R : Type 0} → List (Lost R) → ℕ
lost_count [] = 0
lost_count (d ∷ ds) = map.len d.rows + lost_count ds

abbrev pub tables_count : {R : Type 0} → Tables R → ℕ
tables_count t = map.len t.live + lost_count t.deletions

-- how many rows of a table lie beyond a place, where a walk has yet to go
abbrev pub table_beyond : {R : Type 0} → Option AddressPrefix → FinMap prefix_cmp R → ℕ
table_beyond place t = count_by (is_beyond place) (map.keys t)

abbrev pub lost_beyond : {R : Type 0} → Option AddressPrefix → List (Lost R) → ℕ
lost_beyond place [] = 0
lost_beyond place (d ∷ ds) = table_beyond place d.rows + lost_beyond place ds

-- how many rows of all tables do
abbrev pub tables_beyond : {R : Type 0} → Option AddressPrefix → Tables R → ℕ
tables_beyond place t = table_beyond place t.live + lost_beyond place t.deletions
