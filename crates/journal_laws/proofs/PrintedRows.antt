-- Each row of each live link can be printed, where the rows of the tables can.
use Rattle.std.proofs.Common.{◌≡◌, ℕ, ◌^◌, ◌<◌, ◌==◌, Bool, true, false, not, cond, List, [], ◌∷◌, map, Option, Some, None, IfSome, option_map, refl, sym, ap, subst, ◌∙◌, inl, inr, arith}
use Rattle.std.specs.Prelude.{filter}
use Rattle.std.specs.List.{AllByRecursion}
use Rattle.std.specs.FinMap.{FinMap}
use Rattle.addr4.specs.Families.{IsPrefixOf}
use Rattle.addr4.specs.Prefixes.{AddressPrefix, prefix_cmp}
use Rattle.bgp_attr.specs.Attributes.{Attrs}
use Rattle.bgp_attr.specs.declared.speaker.Profile.{Profile}
use Rattle.bgp_wire.specs.Readable.{said_of}
use Rattle.rib_route.specs.declared.Proto.{Proto}
use Rattle.rib_route.specs.declared.Proto.TheVariants.{Connected, Static, Ospf, Rip}
use Rattle.rib_route.specs.Rows.{Interior}
use Rattle.rib_route.specs.Rows.{FibRow}
use Rattle.rib_route.specs.Forwarding.{fib_row}
use Rattle.rib_merge.specs.Merging.{merged, row_of_both}
use Rattle.rib_merge.specs.Forwards.{forwarded}
use Rattle.link_change.specs.Rows.{Rows}
use Rattle.policy_rules.specs.Rules.{Rule}
use Rattle.policy_rules.specs.Ranges.{AreRules}
use Rattle.pass_core.specs.Passed.{Walked, is_beyond, function_of, function_at, edited, walk_edited, walk_stepped, walk_of_waiting, after_walk}
use Rattle.pass_core.specs.Turns.{walked_on}
use Rattle.filter_bank.specs.Filtered.{filtered}
use Rattle.journal_text.specs.declared.link.Link.{Link}
use Rattle.journal_text.specs.declared.link.Link.TheVariants as names
use Rattle.journal_text.specs.Lines.{Value}
use Rattle.journal_text.specs.Names.{IsNameNumber}
use Rattle.journal_text.specs.Values.{valued, attrs_value, route_value, interior_value, fib_value}
use Rattle.journal_text.specs.Walk.{no_links}
use Rattle.journal_laws.specs.Printed.{Printing, IsPrintable}
use Rattle.journal_laws.proofs.FilteredRoutes.{filtered_printable}
use Rattle.loss_chain.specs.Lost.{Lost}
use Rattle.loss_chain.specs.Tables.{Tables, rows_above, lowest_rows, AreRising}
use Rattle.loss_chain.specs.Rows.{IsRow}
use Rattle.loss_chain.specs.Steps.{no_tables, fed_tables, lost_tables, welded_tables, without, deletions_after, swept_one, swept_tables}
use Rattle.loss_chain.proofs.FeedLemmas.{no_row_at_first, feeds_bring_one_row, losses_bring_no_row, welds_bring_no_row, turns_bring_no_row, lowest_rows_are_rows, numbers_fed, numbers_swept}
use Rattle.loss_chain.proofs.ListLemmas.{all_mapped, all_filtered}
use Rattle.loss_chain.proofs.TableLemmas.{is_full, swept_number, all_lost}
use Rattle.in_chain.specs.Chains.{Chained, filt_rows, links_of, is_named, beside}
use Rattle.in_chain.specs.Incomings.{in_rows}
use Rattle.rib_tree.specs.Branches.{org_rows}
use Rattle.rib_tree.specs.Trees.{Treed, branch_of, tree_links, is_tree_link, beside_tree, low_rows, dyn_rows, int_rows, interior_distance}
use Rattle.journal_laws.specs.Standing.{IsHeardRow, IsInteriorRow, AreTablesOf, AreRulesIfAny, AreRulesOfWalk, IsPrintableChain}
use Rattle.journal_laws.proofs.ReadAttrs.{read_printable}

-- ---- tables
-- of such rows, and the losses rise
pub record AreFit {R : Type 0} (Is : AddressPrefix → R → Type 0) (t : Tables R) : Type 0 where
  pub printable : AreTablesOf Is t
  pub rising : AreRising t.deletions

module _ {R : Type 0} where
  rising_mapped : (f : Lost R → Lost R) → ((d : Lost R) → (f d).number ≡ d.number) → (ds : List (Lost R)) → AreRising ds → AreRising (map f ds)
  rising_mapped f same [] rising = tt
  rising_mapped f same (d ∷ ds) rising = (
    all_mapped (λ (l : Lost R). (f d).number < l.number) f (λ l lt. let e = same l in omega (arith, lt, e)) ds (subst (λ (n : ℕ). AllByRecursion (λ (l : Lost R). n < l.number) ds) (sym (same d)) rising.0),
    rising_mapped f same ds rising.1,
  )

  rising_filtered : (test : Lost R → Bool) (ds : List (Lost R)) → AreRising ds → AreRising (filter test ds)
  rising_filtered test [] rising = tt
  rising_filtered test (d ∷ ds) rising = elim (test d) as (λ (b : Bool). AreRising (cond b (d ∷ filter test ds) (filter test ds))) [
    | true ↦ (all_filtered (λ (l : Lost R). d.number < l.number) test ds rising.0, rising_filtered test ds rising.1)
    | false ↦ rising_filtered test ds rising.1
  ]

  rising_fed : (ds : List (Lost R)) (p : AddressPrefix) (row : Option R) → AreRising ds → AreRising (deletions_after ds p row)
  rising_fed ds p None rising = rising
  rising_fed ds p (Some row) rising = rising_mapped (without p) (λ d. refl) ds rising

module _ {R : Type 0} (Is : AddressPrefix → R → Type 0) where
  pub none_printable : AreTablesOf Is no_tables
  none_printable = record { rows = λ p row is. absurd (no_row_at_first p row is); losses = tt }

  pub fed_fit : (t : Tables R) (p : AddressPrefix) (row : Option R) → AreFit Is t → IfSome row (Is p) → AreFit Is (fed_tables t p row)
  fed_fit t p row fit new = record {
    printable = record {
      rows = λ q r is. elim (feeds_bring_one_row t p row q r is) as (λ _. Is q r) [
        | inl old ↦ fit.printable.rows q r old
        | inr fed ↦ subst (λ (x : AddressPrefix). Is x r) (sym fed.0) (subst (λ (o : Option R). IfSome o (Is p)) fed.1 new)
      ];
      losses = numbers_fed IsNameNumber t.deletions p row fit.printable.losses;
    };
    rising = rising_fed t.deletions p row fit.rising;
  }

  pub swept_fit : (number : ℕ) (p : AddressPrefix) (t : Tables R) → AreFit Is t → AreFit Is (swept_tables number p t)
  swept_fit number p t fit = record {
    printable = record { rows = λ q r is. fit.printable.rows q r (turns_bring_no_row number p t q r is); losses = numbers_swept IsNameNumber number p t.deletions fit.printable.losses };
    rising = rising_mapped (swept_one number p) (swept_number number p) t.deletions fit.rising;
  }

  pub welded_fit : (t : Tables R) → AreFit Is t → AreFit Is (welded_tables t)
  welded_fit t fit = record {
    printable = record { rows = λ q r is. fit.printable.rows q r (welds_bring_no_row t q r is); losses = all_filtered (λ (d : Lost R). IsNameNumber d.number) is_full t.deletions fit.printable.losses };
    rising = rising_filtered is_full t.deletions fit.rising;
  }

  pub lost_printable : (number : ℕ) (t : Tables R) → IsNameNumber number → AreTablesOf Is t → AreTablesOf Is (lost_tables number t)
  lost_printable number t named h = record { rows = λ q r is. h.rows q r (losses_bring_no_row number t q r is); losses = all_lost (λ (d : Lost R). IsNameNumber d.number) number t h.losses named }

-- ---- rules
module _ (v6 as4 : Bool) where
  rules_stepped : (walk : Option (Walked (List Rule))) (p : AddressPrefix) → AreRulesOfWalk v6 as4 walk → AreRulesOfWalk v6 as4 (walk_stepped walk p)
  rules_stepped None p are = tt
  rules_stepped (Some w) p are = are

  rules_waiting : (waiting : Option (List Rule)) → AreRulesIfAny v6 as4 waiting → AreRulesOfWalk v6 as4 (walk_of_waiting waiting)
  rules_waiting None are = tt
  rules_waiting (Some rules) are = (are, tt)

  rules_edited : (walk : Option (Walked (List Rule))) (rules : List Rule) → AreRulesOfWalk v6 as4 walk → AreRules v6 as4 rules → AreRulesOfWalk v6 as4 (Some (walk_edited walk rules))
  rules_edited None rules are new = (new, tt)
  rules_edited (Some w) rules are new = (are.0, new)

  rules_at : (in_force : List Rule) (walk : Option (Walked (List Rule))) (p : AddressPrefix) → AreRules v6 as4 in_force → AreRulesOfWalk v6 as4 walk → AreRules v6 as4 (function_of in_force walk p)
  rules_at in_force None p are on = are
  rules_at in_force (Some w) p are on = elim (is_beyond w.place p) as (λ (b : Bool). AreRules v6 as4 (cond b in_force w.next)) [ true ↦ are | false ↦ on.0 ]

finished_printable : (profile : Profile) (c : Chained) (walk : Option (Walked (List Rule))) → IsPrintableChain profile c → AreRulesOfWalk profile.second profile.as4 walk → IsPrintableChain profile (record c { filter = after_walk c.filter.in_force walk })
finished_printable profile c None h are = record { tables = h.tables; in_force = h.in_force; walk = tt }
finished_printable profile c (Some w) h are = record { tables = h.tables; in_force = are.0; walk = rules_waiting profile.second profile.as4 w.waiting are.1 }

pub walked_printable : (profile : Profile) (c : Chained) (next : Option AddressPrefix) → IsPrintableChain profile c → IsPrintableChain profile (record c { filter = walked_on next c.filter })
walked_printable profile c None h = finished_printable profile c c.filter.walk h h.walk
walked_printable profile c (Some p) h = record { tables = h.tables; in_force = h.in_force; walk = rules_stepped profile.second profile.as4 c.filter.walk p h.walk }

pub edited_printable : (profile : Profile) (c : Chained) (rules : List Rule) → IsPrintableChain profile c → AreRules profile.second profile.as4 rules → IsPrintableChain profile (record c { filter = edited c.filter rules })
edited_printable profile c rules h new = record { tables = h.tables; in_force = h.in_force; walk = rules_edited profile.second profile.as4 c.filter.walk rules h.walk new }

-- ---- links
-- each of these rows can be printed at its prefix
abbrev pub Prints : Printing → {R : Type 0} → (R → Value) → Rows R → Type 0
Prints printing {R} value rows = (p : AddressPrefix) (row : R) → rows p ≡ Some row → IsPrefixOf printing.v6 p × IsPrintable printing (value row)

-- and each row of a link, if it is live
abbrev pub PrintsIfAny : Printing → Option (Rows Value) → Type 0
PrintsIfAny printing of = (rows : Rows Value) (p : AddressPrefix) (v : Value) → of ≡ Some rows → rows p ≡ Some v → IsPrefixOf printing.v6 p × IsPrintable printing v

module _ (printing : Printing) where
  none_prints : PrintsIfAny printing None
  none_prints rows p v at is = absurd (cc)

  module _ {R : Type 0} (value : R → Value) where
    pub live_prints : (own : Rows R) → Prints printing value own → PrintsIfAny printing (Some (valued value own))
    live_prints own prints rows p v at is = let same : valued value own ≡ rows = cc in by_row (own p) refl (ap (λ (f : Rows Value). f p) same ∙ is)
      where
        by_row : (o : Option R) → own p ≡ o → option_map value o ≡ Some v → IsPrefixOf printing.v6 p × IsPrintable printing v
        by_row None at is = absurd (cc)
        by_row (Some row) at is = let same : value row ≡ v = cc in subst (λ (x : Value). IsPrefixOf printing.v6 p × IsPrintable printing x) same (prints p row at)

    -- rows of which each can be printed
    module _ (Is : AddressPrefix → R → Type 0) (shown : (p : AddressPrefix) (row : R) → Is p row → IsPrefixOf printing.v6 p × IsPrintable printing (value row)) where
      tables_print : (t : Tables R) → AreTablesOf Is t → Prints printing value (lowest_rows t)
      tables_print t h p row is = shown p row (h.rows p row (lowest_rows_are_rows t p row is))

      above_prints : (live : FinMap prefix_cmp R) (n : ℕ) (ds : List (Lost R)) → ((p : AddressPrefix) (row : R) → IsRow (record { live = live; deletions = ds }) p row → Is p row) → PrintsIfAny printing (option_map (valued value) (rows_above live n ds))
      above_prints live n [] each = none_prints
      above_prints live n (d ∷ ds) each = elim (d.number == n) as (λ (b : Bool). PrintsIfAny printing (option_map (valued value) (cond b (Some (lowest_rows (record { live = live; deletions = ds }))) (rows_above live n ds)))) [
        | true ↦ live_prints (lowest_rows (record { live = live; deletions = ds })) (λ p row is. shown p row (higher p row (lowest_rows_are_rows (record { live = live; deletions = ds }) p row is)))
        | false ↦ above_prints live n ds higher
      ]
        where
          higher : (p : AddressPrefix) (row : R) → IsRow (record { live = live; deletions = ds }) p row → Is p row
          higher p row (inl own) = each p row (inl own)
          higher p row (inr lost) = each p row (inr (inr lost))

  if_prints : (b : Bool) (of : Option (Rows Value)) → PrintsIfAny printing of → PrintsIfAny printing (cond b of None)
  if_prints true of prints = prints
  if_prints false of prints = none_prints

  -- ---- a chain
  module _ (profile : Profile) where
    heard_prints : profile.second ≡ printing.v6 → (external : Bool) (p : AddressPrefix) (a : Attrs) → IsHeardRow profile external p a → IsPrefixOf printing.v6 p × IsPrintable printing (attrs_value a)
    heard_prints family external p a h = (
      subst (λ v6. IsPrefixOf v6 p) family h.0,
      read_printable printing profile external h.1.0 h.1.1 a h.1.2 h.1.3 (subst (λ v6. (said_of v6 h.1.1).attrs ≡ Some a) family h.1.4),
    )

    -- whose peer is known, which is of the network's family, and which can be printed
    pub record IsFit (c : Chained) : Type 0 where
      pub family : profile.second ≡ printing.v6
      pub known : printing.peers c.peer.number ≡ Some c.peer
      pub small : c.peer.number < 2 ^ 8
      pub named : IsNameNumber c.incoming.number
      pub printable : IsPrintableChain profile c
      pub rising : AreRising c.incoming.tables.deletions

    in_prints : (c : Chained) → IsFit c → Prints printing attrs_value (in_rows c.incoming)
    in_prints c fit = tables_print attrs_value (IsHeardRow profile (not c.peer.internal)) (heard_prints fit.family (not c.peer.internal)) c.incoming.tables fit.printable.tables

    pub filt_prints : (c : Chained) → IsFit c → Prints printing route_value (filt_rows c)
    filt_prints c fit p route is = by_attrs (in_rows c.incoming p) refl is
      where
        rules : List Rule
        rules = function_at c.filter p

        by_attrs : (o : Option Attrs) → in_rows c.incoming p ≡ o → filtered c.me c.peer rules p o ≡ Some route → IsPrefixOf printing.v6 p × IsPrintable printing (route_value route)
        by_attrs None at is = absurd (cc)
        by_attrs (Some a) at is =
            let own = in_prints c fit p a at in
            (own.0, filtered_printable printing c.me c.peer profile.as4 rules p a route fit.known fit.small (subst (λ v6. AreRules v6 profile.as4 rules) fit.family (rules_at profile.second profile.as4 c.filter.in_force c.filter.walk p fit.printable.in_force fit.printable.walk)) own.1 is)

    pub chain_prints : (c : Chained) → IsFit c → (link : Link) → PrintsIfAny printing (links_of c link)
    chain_prints c fit (names.Filt k) = if_prints (k == c.incoming.number) _ (live_prints route_value (filt_rows c) (filt_prints c fit))
    chain_prints c fit (names.In k) = if_prints (k == c.incoming.number) _ (live_prints attrs_value (in_rows c.incoming) (in_prints c fit))
    chain_prints c fit (names.Peer k s) = if_prints (k == c.incoming.number) _
        (above_prints attrs_value (IsHeardRow profile (not c.peer.internal)) (heard_prints fit.family (not c.peer.internal)) c.incoming.tables.live s c.incoming.tables.deletions fit.printable.tables.rows)
    chain_prints c fit other = none_prints

    pub beside_prints : (c : Chained) → IsFit c → (link : Link) → PrintsIfAny printing (beside no_links c link)
    beside_prints c fit link = if_prints (is_named c.incoming.number link) (links_of c link) (chain_prints c fit link)

  -- ---- merged rows
  module _ {R : Type 0} (value : R → Value) (distance : R → ℕ) where
    pub merged_print : (left right : Rows R) → Prints printing value left → Prints printing value right → Prints printing value (merged distance left right)
    merged_print left right one other p row is = by_rows (left p) (right p) refl refl is
      where
        by_rows : (a b : Option R) → left p ≡ a → right p ≡ b → row_of_both distance a b ≡ Some row → IsPrefixOf printing.v6 p × IsPrintable printing (value row)
        by_rows None b l r is = other p row (r ∙ is)
        by_rows (Some a) None l r is = one p row (l ∙ is)
        by_rows (Some a) (Some b) l r is = by_test _ is
          where
            by_test : (t : Bool) → cond t (Some b) (Some a) ≡ Some row → IsPrefixOf printing.v6 p × IsPrintable printing (value row)
            by_test true is = other p row (r ∙ is)
            by_test false is = one p row (l ∙ is)

  -- interior rows, as what packets are forwarded by
  pub forwarded_print : (int : Rows Interior) → Prints printing interior_value int → Prints printing fib_value (forwarded int)
  forwarded_print int prints p row is = by_row (int p) refl is
    where
      by_row : (o : Option Interior) → int p ≡ o → option_map fib_row o ≡ Some row → IsPrefixOf printing.v6 p × IsPrintable printing (fib_value row)
      by_row None at is = absurd (cc)
      by_row (Some route) at is =
          let own = prints p route at in
          let same : fib_row route ≡ row = cc in
          subst (λ (x : FibRow). IsPrefixOf printing.v6 p × IsPrintable printing (fib_value x)) same
          (own.0, record { well_told = record { ranges = own.1.well_told.ranges.0; told = own.1.well_told.told }; short = tt })

  -- ---- the tree
  module _ (t : Treed) (each : (proto : Proto) → AreTablesOf (IsInteriorRow printing.v6) (branch_of proto t).tables) where
    interior_prints : (p : AddressPrefix) (row : Interior) → IsInteriorRow printing.v6 p row → IsPrefixOf printing.v6 p × IsPrintable printing (interior_value row)
    interior_prints p row h = (h.prefix, h.printed printing.peers)

    org_prints : (proto : Proto) → Prints printing interior_value (org_rows (branch_of proto t))
    org_prints proto = tables_print interior_value (IsInteriorRow printing.v6) interior_prints (branch_of proto t).tables (each proto)

    low_prints : Prints printing interior_value (low_rows t)
    low_prints = merged_print interior_value interior_distance _ _ (org_prints Connected) (org_prints Static)

    dyn_prints : Prints printing interior_value (dyn_rows t)
    dyn_prints = merged_print interior_value interior_distance _ _ (org_prints Ospf) (org_prints Rip)

    pub int_prints : Prints printing interior_value (int_rows t)
    int_prints = merged_print interior_value interior_distance (low_rows t) (dyn_rows t) low_prints dyn_prints

    pub tree_prints : (link : Link) → PrintsIfAny printing (tree_links t link)
    tree_prints (names.Org proto) = live_prints interior_value _ (org_prints proto)
    tree_prints (names.Lost proto n) = above_prints interior_value (IsInteriorRow printing.v6) interior_prints (branch_of proto t).tables.live n (branch_of proto t).tables.deletions (each proto).rows
    tree_prints names.Low = live_prints interior_value _ low_prints
    tree_prints names.Dyn = live_prints interior_value _ dyn_prints
    tree_prints names.Int = live_prints interior_value _ int_prints
    tree_prints other = none_prints

    pub beside_tree_prints : (link : Link) → PrintsIfAny printing (beside_tree no_links t link)
    beside_tree_prints link = if_prints (is_tree_link link) (tree_links t link) (tree_prints link)
