-- The ways of falls in chains and trees, and what is printed of them.
use Rattle.std.proofs.Common.{◌≡◌, ◌⊎◌, ℕ, ◌+◌, ◌<◌, ◌≤◌, ◌==◌, Bool, true, false, not, cond, List, [], ◌∷◌, ◌++◌, Option, Some, None, IfSome, option_map, refl, sym, ap, subst, ◌∙◌, inl, inr, append_assoc, arith}
use Rattle.std.specs.List.{AllByRecursion}
use Rattle.std.specs.FinMap as tables
use Rattle.std.specs.FinMap.{FinMap}
use Rattle.addr4.specs.Families.{IsPrefixOf}
use Rattle.addr4.specs.Prefixes.{AddressPrefix, prefix_cmp}
use Rattle.addr4.proofs.PrefixOrder.{itself}
use Rattle.bgp_attr.specs.Attributes.{Attrs}
use Rattle.bgp_attr.specs.Routes.{Route}
use Rattle.bgp_attr.specs.declared.speaker.Profile.{Profile}
use Rattle.rib_route.specs.declared.Proto.{Proto}
use Rattle.rib_route.specs.declared.Proto.TheVariants.{Connected}
use Rattle.link_change.specs.Rows.{Rows, is_empty_map}
use Rattle.link_change.specs.Changes.{IsSent}
use Rattle.link_change.specs.Changes.{Change}
use Rattle.pass_core.specs.Passed.{Passed}
use Rattle.pass_core.specs.Turns.{walked_on, IsSentAt}
use Rattle.policy_rules.specs.Rules.{Rule}
use Rattle.journal_text.specs.Falls.{IsWhole, IsCut, GoesDown}
use Rattle.journal_text.specs.Links.{same_link}
use Rattle.journal_text.specs.Names.{IsNameNumber, IsNamed}
use Rattle.journal_text.specs.Values.{route_value, sent_entries}
use Rattle.journal_text.specs.Walk.{no_links, change_entries}
use Rattle.journal_text.specs.Lines.{Entry}
use Rattle.journal_text.specs.declared.entry.Entry.TheVariants.{Weld}
use Rattle.journal_text.specs.declared.line.Line.TheVariants as lines
use Rattle.journal_text.specs.declared.link.Link.{Link}
use Rattle.journal_text.specs.declared.link.Link.TheVariants.{In, Peer, Filt, Org, Lost as LostLink, Low, Dyn, Int}
use Rattle.journal_text.specs.declared.link.Task.{Task}
use Rattle.journal_text.specs.declared.link.Task.TheVariants.{Del, Fin}
use Rattle.journal_text.specs.Lines.{Value}
use Rattle.journal_text.proofs.LinkLemmas.{same_link-yes}
use Rattle.journal_laws.specs.Printed.{Printing, IsPrinted, IsPrintable}
use Rattle.journal_laws.specs.Standing.{IsHeardRow}
use Rattle.journal_laws.specs.Laws.{AreEachOnce}
use Rattle.journal_laws.proofs.PrintedFalls.{falls_printed, changes_printed}
use Rattle.journal_laws.proofs.PrintedRows.{AreFit, IsFit, Prints, swept_fit, walked_printable, filt_prints, beside_prints}
use Rattle.loss_chain.specs.Lost.{Lost}
use Rattle.loss_chain.specs.declared.owner.Owner.{Owner}
use Rattle.loss_chain.specs.declared.owner.Owner.TheVariants as owners
use Rattle.loss_chain.specs.Owners.{lost_link}
use Rattle.loss_chain.specs.Tables.{Tables, AreRising}
use Rattle.loss_chain.specs.Rows.{IsLostRow}
use Rattle.loss_chain.specs.Falls.{way_down, way_from}
use Rattle.loss_chain.specs.Steps.{swept_tables, table_of, weld_entries}
use Rattle.loss_chain.proofs.ListLemmas.{all_appended, all_so}
use Rattle.in_chain.specs.Chains.{Chained, with_tables, filt_rows, beside}
use Rattle.in_chain.specs.Falls.{Falls, way_of_feed, way_of_sweep}
use Rattle.in_chain.specs.Steps.{Turned}
use Rattle.rib_tree.specs.Falls.{merge_below, way_of_route, way_of_sweep as tree_way_of_sweep}
use Rattle.rib_tree.specs.Trees.{Treed, branch_of}
use Rattle.rib_route.specs.Rows.{Interior}

-- ---- ways

-- how high a link stands above the end of its way
abbrev height : Link → ℕ
height (Peer k s) = s + 2
height (In k) = 1
height (LostLink proto n) = n + 3
height (Org proto) = 2
height Low = 1
height Dyn = 1
height other = 0

-- links downward, none below this height, whose names are in their ranges
abbrev IsWay : ℕ → List Link → Type 0
IsWay least [] = Unit {0}
IsWay least (l ∷ ls) = (least ≤ height l) × IsNamed l × AllByRecursion (λ k. height k < height l) ls × IsWay least ls

way_pushed : (above least : ℕ) (ls : List Link) (out : Link) → IsWay above ls → height out < above → least ≤ height out → IsNamed out → IsWay least (ls ++ out ∷ [])
way_pushed above least [] out way below at named = (at, named, tt, tt)
way_pushed above least (l ∷ ls) out way below at named =
    let high = way.0 in (
      omega (arith, high, below, at),
      way.1,
      all_appended (λ (k : Link). height k < height l) (λ k. height k < height l) (λ k lt. lt) ls out way.2 (omega (arith, high, below)),
      way_pushed above least ls out way.3 below at named,
    )

apart : (a b : Link) → height b < height a → same_link a b ≡ false
apart a b lt = by_test (same_link a b) refl
  where
    by_test : (t : Bool) → same_link a b ≡ t → same_link a b ≡ false
    by_test true e = absurd (let same : height a ≡ height b = ap (λ (l : Link). height l) (same_link-yes a b e) in omega (arith, same, lt))
    by_test false e = e

each_once : (least : ℕ) (ls : List Link) → IsWay least ls → AreEachOnce ls
each_once least [] way = tt
each_once least (l ∷ ls) way = (way.1, all_so (λ (k : Link). height k < height l) (λ k. same_link l k ≡ false) (λ k lt. apart l k lt) ls way.2, each_once least ls way.3)

lost_higher : (o : Owner) (m n : ℕ) → m < n → height (lost_link o m) < height (lost_link o n)
lost_higher (owners.Peer k) m n lt = omega (arith, lt)
lost_higher (owners.Origin proto) m n lt = omega (arith, lt)

-- an owner whose links are named where their numbers are
abbrev pub Names : Owner → Type 0
Names o = (n : ℕ) → IsNameNumber n → IsNamed (lost_link o n)

module _ {R : Type 0} (o : Owner) (own : Names o) where
  -- each loss stands above the link `out`
  abbrev Above : Link → List (Lost R) → Type 0
  Above out ds = AllByRecursion (λ (d : Lost R). height out < height (lost_link o d.number)) ds

  above_lost : (d : Lost R) (ds : List (Lost R)) → AllByRecursion (λ (l : Lost R). d.number < l.number) ds → Above (lost_link o d.number) ds
  above_lost d ds later = all_so (λ (l : Lost R). d.number < l.number) (λ l. height (lost_link o d.number) < height (lost_link o l.number)) (λ l lt. lost_higher o d.number l.number lt) ds later

  down_way : (out : Link) (ds : List (Lost R)) → IsNamed out → Above out ds → AreRising ds → AllByRecursion (λ (d : Lost R). IsNameNumber d.number) ds → IsWay (height out) (way_down o out ds)
  down_way out [] named above rising numbers = (omega arith, named, tt, tt)
  down_way out (d ∷ ds) named above rising numbers =
      way_pushed (height (lost_link o d.number)) (height out) (way_down o (lost_link o d.number) ds) out
      (down_way (lost_link o d.number) ds (own d.number numbers.0) (above_lost d ds rising.0) rising.1 numbers.1) above.0 (omega arith) named

  from_way : (number : ℕ) (out : Link) (ds : List (Lost R)) → IsNamed out → Above out ds → AreRising ds → AllByRecursion (λ (d : Lost R). IsNameNumber d.number) ds → IsWay (height out) (way_from o number out ds)
  from_way number out [] named above rising numbers = tt
  from_way number out (d ∷ ds) named above rising numbers = elim (d.number == number) as (λ (b : Bool). IsWay (height out) (cond b (out ∷ []) (way_from o number (lost_link o d.number) ds ++ out ∷ []))) [
    | true ↦ (omega arith, named, tt, tt)
    | false ↦ way_pushed (height (lost_link o d.number)) (height out) (way_from o number (lost_link o d.number) ds) out
        (from_way number (lost_link o d.number) ds (own d.number numbers.0) (above_lost d ds rising.0) rising.1 numbers.1) above.0 (omega arith) named
  ]

-- past the filter of a peer, and past the merges of a protocol
peer_once : (k : ℕ) (way : List Link) → IsNameNumber k → IsWay 1 way → AreEachOnce (way ++ Filt k ∷ [])
peer_once k way named is = each_once 0 (way ++ Filt k ∷ []) (way_pushed 1 0 way (Filt k) is (omega arith) (omega arith) named)

merge_at : (proto : Proto) → (height (merge_below proto) ≡ 1) × IsNamed (merge_below proto)
merge_at Connected = (refl, tt)
merge_at other = (refl, tt)

route_once : (proto : Proto) (way : List Link) → IsWay 2 way → AreEachOnce (way ++ (merge_below proto ∷ Int ∷ []))
route_once proto way is =
    let at = (merge_at proto).0 in
    subst AreEachOnce (append_assoc way (merge_below proto ∷ []) (Int ∷ []))
    (each_once 0 ((way ++ merge_below proto ∷ []) ++ Int ∷ []) (way_pushed 1 0 (way ++ merge_below proto ∷ []) Int (way_pushed 2 1 way (merge_below proto) is (omega (arith, at)) (omega (arith, at)) (merge_at proto).1) (omega arith) (omega arith) tt))

pub down_of : {R : Type 0} (p : AddressPrefix) (way : List Link) (sent : Option (Change R)) (es : List (Entry Value)) → GoesDown p way sent es → IsWhole p way es ⊎ IsCut p way es
down_of p way None es down = inr down
down_of p way (Some change) es down = inl down.1

pub table_row : {R : Type 0} (n : ℕ) (ds : List (Lost R)) (t : FinMap prefix_cmp R) (p : AddressPrefix) (row : R) → table_of n ds ≡ Some t → tables.get t p ≡ Some row → IsLostRow ds p row
table_row n [] t p row there is = absurd (cc)
table_row {R} n (d ∷ ds) t p row there is = elim (d.number == n) as (λ (b : Bool). cond b (Some d.rows) (table_of n ds) ≡ Some t → IsLostRow (d ∷ ds) p row) [
  | true ↦ λ here. let same : d.rows ≡ t = cc in inl (subst (λ (x : FinMap prefix_cmp R). tables.get x p ≡ Some row) (sym same) is)
  | false ↦ λ later. inr (table_row n ds t p row later is)
] there

-- ---- the ways in a tree
above_org : (proto : Proto) (ds : List (Lost Interior)) → AllByRecursion (λ (d : Lost Interior). IsNameNumber d.number) ds → AllByRecursion (λ (d : Lost Interior). height (Org proto) < height (LostLink proto d.number)) ds
above_org proto ds numbers = all_so (λ (d : Lost Interior). IsNameNumber d.number) (λ d. 2 < d.number + 3) (λ d n. omega arith) ds numbers

module _ (proto : Proto) (t : Treed) (rising : AreRising (branch_of proto t).tables.deletions) (numbers : AllByRecursion (λ (d : Lost Interior). IsNameNumber d.number) (branch_of proto t).tables.deletions) where
  pub route_way : AreEachOnce (way_of_route proto t)
  route_way = route_once proto (way_down (owners.Origin proto) (Org proto) (branch_of proto t).tables.deletions)
      (down_way (owners.Origin proto) (λ n named. named) (Org proto) (branch_of proto t).tables.deletions tt (above_org proto (branch_of proto t).tables.deletions numbers) rising numbers)

  pub sweep_way : (n : ℕ) → AreEachOnce (tree_way_of_sweep proto n t)
  sweep_way n = route_once proto (way_from (owners.Origin proto) n (Org proto) (branch_of proto t).tables.deletions)
      (from_way (owners.Origin proto) (λ n named. named) n (Org proto) (branch_of proto t).tables.deletions tt (above_org proto (branch_of proto t).tables.deletions numbers) rising numbers)

module _ (printing : Printing) where
  -- ---- entries
  abbrev pub ArePrintedEntries : List (Entry Value) → Type 0
  ArePrintedEntries es = AllByRecursion (λ e. IsPrinted printing (lines.Journal e)) es

  pub weld_printed : {R : Type 0} (o : Owner) → Names o → (out : Link) (ds : List (Lost R)) → IsNamed out → AllByRecursion (λ (d : Lost R). IsNameNumber d.number) ds → ArePrintedEntries (weld_entries o out ds)
  weld_printed o own out [] named numbers = tt
  weld_printed o own out (d ∷ ds) named numbers = elim (is_empty_map d.rows) as (λ (b : Bool). ArePrintedEntries (cond b (Weld (lost_link o d.number) out ∷ []) (weld_entries o (lost_link o d.number) ds))) [
    | true ↦ (record { short = record { ranges = (own d.number numbers.0, named); values = tt; octets = omega arith }; told = tt }, tt)
    | false ↦ weld_printed o own (lost_link o d.number) ds (own d.number numbers.0) numbers.1
  ]

  -- what a stage sends
  module _ {R : Type 0} (value : R → Value) where
    abbrev PrintsAt : AddressPrefix → R → Type 0
    PrintsAt p row = IsPrefixOf printing.v6 p × IsPrintable printing (value row)

    row_prints : (rows : Rows R) (p : AddressPrefix) (o : Option R) → Prints printing value rows → rows p ≡ o → IfSome o (PrintsAt p)
    row_prints rows p None prints at = tt
    row_prints rows p (Some row) prints at = prints p row at

    change_printed : (link : Link) (p : AddressPrefix) (a b : Option R) → IsNamed link → IfSome a (PrintsAt p) → IfSome b (PrintsAt p) → ArePrintedEntries (change_entries link p (option_map value a) (option_map value b))
    change_printed link p None None named x y = tt
    change_printed link p None (Some b) named x y = changes_printed printing link p None (Some (value b)) named y.0 tt y.1
    change_printed link p (Some a) None named x y = changes_printed printing link p (Some (value a)) None named x.0 x.1 tt
    change_printed link p (Some a) (Some b) named x y = changes_printed printing link p (Some (value a)) (Some (value b)) named x.0 x.1 y.1

    pub sent_printed : (link : Link) (old new : Rows R) (p : AddressPrefix) (sent : Option (Change R)) → IsNamed link → Prints printing value old → Prints printing value new → IsSent old new p sent → ArePrintedEntries (sent_entries value link sent)
    sent_printed link old new p None named before then is = tt
    sent_printed link old new p (Some change) named before then is =
        let q = change.prefix in
        change_printed link q change.before change.after named (row_prints old q change.before before is.1.0)
        (row_prints new q change.after then (ap (λ (f : Rows R). f q) is.2 ∙ ap (λ (b : Bool). cond b change.after (old q)) (itself q)))

  module _ (profile : Profile) where
    -- ---- the chain of a peer
    -- the rows of a peer
    abbrev pub Heard : Chained → AddressPrefix → Attrs → Type 0
    Heard c = IsHeardRow profile (not c.peer.internal)

    pub with_fit : (c : Chained) (t : Tables Attrs) → IsFit printing profile c → AreFit (Heard c) t → IsFit printing profile (with_tables c t)
    with_fit c t fit own = record {
      family = fit.family;
      known = fit.known;
      small = fit.small;
      named = fit.named;
      printable = record { tables = own.printable; in_force = fit.printable.in_force; walk = fit.printable.walk };
      rising = own.rising;
    }

    pub tables_fit : (c : Chained) → IsFit printing profile c → AreFit (Heard c) c.incoming.tables
    tables_fit c fit = record { printable = fit.printable.tables; rising = fit.rising }

    module _ (c : Chained) (fit : IsFit printing profile c) where
      above_in : (ds : List (Lost Attrs)) → AllByRecursion (λ (d : Lost Attrs). IsNameNumber d.number) ds → AllByRecursion (λ (d : Lost Attrs). height (In c.incoming.number) < height (Peer c.incoming.number d.number)) ds
      above_in ds numbers = all_so (λ (d : Lost Attrs). IsNameNumber d.number) (λ d. 1 < d.number + 2) (λ d n. omega arith) ds numbers

      pub feed_once : AreEachOnce (way_of_feed c.incoming)
      feed_once = peer_once c.incoming.number (way_down (owners.Peer c.incoming.number) (In c.incoming.number) c.incoming.tables.deletions) fit.named
          (down_way (owners.Peer c.incoming.number) (λ n named. (fit.named, named)) (In c.incoming.number) c.incoming.tables.deletions fit.named (above_in c.incoming.tables.deletions fit.printable.tables.losses) fit.rising fit.printable.tables.losses)

      sweep_once : (s : ℕ) → AreEachOnce (way_of_sweep s c.incoming)
      sweep_once s = peer_once c.incoming.number (way_from (owners.Peer c.incoming.number) s (In c.incoming.number) c.incoming.tables.deletions) fit.named
          (from_way (owners.Peer c.incoming.number) (λ n named. (fit.named, named)) s (In c.incoming.number) c.incoming.tables.deletions fit.named (above_in c.incoming.tables.deletions fit.printable.tables.losses) fit.rising fit.printable.tables.losses)

      pub chain_fall : (c' : Chained) (p : AddressPrefix) (way : List Link) (sent : Option (Change Route)) (fall : List (Entry Value)) → IsFit printing profile c' → IsPrefixOf printing.v6 p → AreEachOnce way → Falls c c' p way sent fall → ArePrintedEntries fall
      chain_fall c' p way sent fall fit' prefix once falls =
          falls_printed printing p way fall (beside no_links c) (beside no_links c') prefix once (down_of p way sent fall falls.down) (falls.leads no_links)
          (λ link rows v at is. (beside_prints printing profile c fit link rows p v at is).1) (λ link rows v at is. (beside_prints printing profile c' fit' link rows p v at is).1)

      pub turned_fit : (task : Task) (less : Chained) (sent : Option (Change Route)) (fall : List (Entry Value)) → Turned c less task sent fall → IsFit printing profile less × ArePrintedEntries fall
      turned_fit (Del k s) less sent fall t =
          let w = t.1 in
          let p = w.prefix in
          let row = table_row s c.incoming.tables.deletions w.table p w.row w.stands w.least.0 in
          let less_fit : IsFit printing profile less = subst (IsFit printing profile) (sym w.after) (with_fit c (swept_tables s p c.incoming.tables) fit (swept_fit (Heard c) s p c.incoming.tables (tables_fit c fit))) in
          (less_fit, chain_fall less p (way_of_sweep s c.incoming) sent fall less_fit (subst (λ v6. IsPrefixOf v6 p) fit.family (fit.printable.tables.rows p w.row (inr row)).0) (sweep_once s) w.fall)
      turned_fit (Fin k) less sent fall t =
          let w = t.1 in
          let next = w.walks.next in
          let is : less ≡ record c { filter = walked_on next c.filter } = w.after ∙ ap (λ (f : Passed (List Rule)). record c { filter = f }) w.walks.after in
          let less_fit : IsFit printing profile less = subst (IsFit printing profile) (sym is) (record { family = fit.family; known = fit.known; small = fit.small; named = fit.named; printable = walked_printable profile c next fit.printable; rising = fit.rising }) in
          let changes : IsSentAt next (filt_rows c) (filt_rows less) sent = subst (λ (x : Chained). IsSentAt next (filt_rows c) (filt_rows x) sent) (sym w.after) w.walks.changes in
          (less_fit, subst ArePrintedEntries (sym w.lines) (by_next next (filt_rows less) (filt_prints printing profile less less_fit) changes))
        where
          by_next : (next : Option AddressPrefix) (new : Rows Route) → Prints printing route_value new → IsSentAt next (filt_rows c) new sent → ArePrintedEntries (sent_entries route_value (Filt c.incoming.number) sent)
          by_next None new then is = subst (λ (s : Option (Change Route)). ArePrintedEntries (sent_entries route_value (Filt c.incoming.number) s)) (sym is.0) tt
          by_next (Some p) new then is = sent_printed route_value (Filt c.incoming.number) (filt_rows c) new p sent fit.named (filt_prints printing profile c fit) then is
      turned_fit other less sent fall t = absurd t
