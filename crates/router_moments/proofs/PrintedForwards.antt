-- This speaker's own routes, the external rows, and what packets are forwarded by can be printed, and so can what goes on to `fib`.
use Rattle.router_moments.proofs.Common.{sym, subst, ◌∙◌, ◌≡◌, ℕ, refl, List, true, arith, false, Bool, ◌≤◌, cond, inr, inl, ◌⊎◌, option_or, AddressPrefix, Route, Neighbour, Profile, Speaker, AreBestRows, fib_distance, IsPrefixOf, Printing, Prints, IsPrinted, HaveWays, IsWay, route_value, fib_value, interior_value, sent_entries, external_value, Entry, Fib, Value, IsSent, Rows, Change, all_both, over, external_hop, Resolving, in_force_by, fresh_by, walk_to, goes_on, Passed, function_at, IsSender, redistributed, Protos, Registry, ext_is_of_best, StandsOver, ext_rows, fib_over, FallsOn, RibExit, FibRow, Interior, Parted, on_link, BgpLink, own_rows, MaySend}
use Rattle.std.proofs.Common.{Option, Some, None}
use Rattle.addr4.specs.Families.{IsAddress}
use Rattle.bgp_wire.specs.Lengths.{attributes_length}
use Rattle.rib_route.specs.Distances.{external_proto}
use Rattle.rib_route.specs.Rows.{External}
use Rattle.rib_merge.specs.Forwards.{forwarded}
use Rattle.pass_core.specs.Passed.{function_of}
use Rattle.redist.specs.Local.{local_attrs, local_route}
use Rattle.redist.proofs.LawLemmas.{only_own_routes}
use Rattle.nexthop_resolver.specs.Ways.{Outlet, Way}
use Rattle.nexthop_resolver.specs.Kept.{first_router, over_outlet}
use Rattle.nexthop_resolver.specs.Resolving.{Answers, made_by}
use Rattle.rib_split.specs.declared.split.BgpLink.TheVariants as sides
use Rattle.rib_split.specs.Splits.{Split}
use Rattle.rib_split.specs.declared.split.Split.TheVariants.{Neither, One, Moved}
use Rattle.rib_split.specs.Splitting.{external_of, external_row, is_of, other, split_rows, first_on, Splits}
use Rattle.rib_split.specs.Laws.{merged_links}
use Rattle.ext_int.specs.Fibs.{resolved_rows, fib_table}
use Rattle.rib_exit.specs.Exits.{journal_link}
use Rattle.rib_exit.specs.Passing.{Caused, caused_entries, part_entries, fall_entries, external_distance}
use Rattle.rib_exit.specs.Steps.{fib_entries, CausesOn}
use Rattle.journal_text.specs.Names.{IsNamed}
use Rattle.journal_text.specs.Values.{valued_change}
use Rattle.journal_text.specs.declared.link.Link.TheVariants.{Ext}
use Rattle.journal_text.specs.declared.line.Line.TheVariants as lines
use Rattle.journal_laws.specs.Printed.{IsPrintable, IsAddressIfAny}
use Rattle.journal_laws.specs.Standing.{IsOutletIfAny}
use Rattle.journal_laws.proofs.PrintedHops.{answers_fit}
use Rattle.journal_laws.proofs.PrintedRows.{merged_print, forwarded_print}
use Rattle.journal_laws.proofs.PrintedWays.{ArePrintedEntries, sent_printed}

-- a message has room for the attributes of this speaker's own routes
own_short : (v6 : Bool) (addr : ℕ) → attributes_length v6 false (local_attrs addr) ≤ 4096
unfolding attributes_length
own_short false addr = let is : attributes_length false false (local_attrs addr) ≡ 14 = refl in omega (arith, is)
own_short true addr = let is : attributes_length true false (local_attrs addr) ≡ 31 = refl in omega (arith, is)

first_fits : (v6 : Bool) (gateway : Option ℕ) (hop : ℕ) → IsAddressIfAny v6 gateway → IsAddress v6 hop → IsAddress v6 (first_router gateway hop)
first_fits v6 None hop own fits = fits
first_fits v6 (Some gateway) hop own fits = own

or_none : {A : Type 0} (o : Option A) → option_or o None ≡ o
or_none None = refl
or_none (Some x) = refl

module _ (profile : Profile) (printing : Printing) where
  -- ---- this speaker's own routes
  own_printed : profile.second ≡ printing.v6 → printing.peers 0 ≡ None → (me : Speaker) → IsSender profile me → IsPrintable printing (route_value (local_route me))
  own_printed family nobody me sender = record {
    well_told = record {
      ranges = record { attrs = record { path = tt; med = tt; local_pref = tt; aggregator = tt; unrecognized = tt }; pref = omega arith; med = tt; prepend = omega arith; igp = omega arith; from = omega arith };
      told = (record { next_hop = subst (λ (v6 : Bool). IsAddress v6 me.addr) family sender.addr.of; aggregator = tt; originator = tt; clusters = tt }, sym nobody);
    };
    short = (false, own_short printing.v6 me.addr);
  }

  pub own_print : profile.second ≡ printing.v6 → printing.peers 0 ≡ None → (s : Option Speaker) (on : Passed Protos) (int : Rows Interior) → MaySend profile s → Prints printing interior_value int → Prints printing route_value (own_rows s on int)
  own_print family nobody None on int sender prints p row is = absurd (cc)
  own_print family nobody (Some me) on int sender prints p row is = by_row (int p) refl is
    where
      by_row : (o : Option Interior) → int p ≡ o → redistributed me (function_at on p) p o ≡ Some row → IsPrefixOf printing.v6 p × IsPrintable printing (route_value row)
      by_row None at is = absurd (cc)
      by_row (Some r) at is =
          ((prints p r at).0, subst (λ (x : Route). IsPrintable printing (route_value x)) (sym (only_own_routes me (function_at on p) p (Some r) row is)) (own_printed family nobody me sender))

  -- ---- external rows
  pub external_print : (best : Rows Route) → AreBestRows profile printing best → Prints printing external_value (λ q. external_row (best q))
  external_print best are p row is = by_route (best p) refl is
    where
      by_sender : (r : Route) (from : Option Neighbour) → best p ≡ Some r → external_of from r.attrs.next_hop ≡ Some row → IsPrefixOf printing.v6 p × IsPrintable printing (external_value row)
      by_sender r None at is = absurd (cc)
      by_sender r (Some peer) at is =
          let own = are p r at in
          let same : record { internal = peer.internal; next_hop = r.attrs.next_hop } ≡ row = cc in
          subst (λ (x : External). IsPrefixOf printing.v6 p × IsPrintable printing (external_value x)) same
          (own.prefix, record { well_told = record { ranges = tt; told = own.printed.well_told.told.0.next_hop }; short = tt })

      by_route : (o : Option Route) → best p ≡ o → external_row o ≡ Some row → IsPrefixOf printing.v6 p × IsPrintable printing (external_value row)
      by_route None at is = absurd (cc)
      by_route (Some r) at is = by_sender r r.from at is

  -- those of a link
  pub side_print : (link : BgpLink) (best : Rows Route) → AreBestRows profile printing best → Prints printing external_value (split_rows best link)
  side_print link best are p row is = by_row (external_row (best p)) refl is
    where
      by_test : (b : Bool) (r : External) → external_row (best p) ≡ Some r → cond b (Some r) None ≡ Some row → IsPrefixOf printing.v6 p × IsPrintable printing (external_value row)
      by_test true r at is = external_print best are p row (at ∙ is)
      by_test false r at is = absurd (cc)

      by_row : (o : Option External) → external_row (best p) ≡ o → on_link link o ≡ Some row → IsPrefixOf printing.v6 p × IsPrintable printing (external_value row)
      by_row None at is = absurd (cc)
      by_row (Some r) at is = by_test (is_of link r.internal) r at is

  -- ---- what packets are forwarded by
  outlet_print : (p : AddressPrefix) (r : External) (row : FibRow) (o : Option Outlet) → IsOutletIfAny printing.v6 o → IsPrefixOf printing.v6 p → IsPrintable printing (external_value r) → over_outlet r o ≡ Some row → IsPrefixOf printing.v6 p × IsPrintable printing (fib_value row)
  outlet_print p r row None own prefix printed is = absurd (cc)
  outlet_print p r row (Some o) own prefix printed is =
      let same : record { proto = external_proto r; gateway = Some (first_router o.gateway r.next_hop); iface = o.iface } ≡ row = cc in
      subst (λ (x : FibRow). IsPrefixOf printing.v6 p × IsPrintable printing (fib_value x)) same
      (prefix, record { well_told = record { ranges = own.0; told = first_fits printing.v6 o.gateway r.next_hop own.1 printed.well_told.told }; short = tt })

  -- the answers that hold at a prefix
  abbrev answers_at : Resolving Way → AddressPrefix → Answers Way
  answers_at s p = function_of (in_force_by s.known) (walk_to (fresh_by s.known) s.walk) p

  resolved_print : (s : Resolving Way) (ext : Rows External) → HaveWays printing.v6 s → Prints printing external_value ext → Prints printing fib_value (resolved_rows s ext)
  resolved_print s ext ways prints p row is = by_row (ext p) refl is
    where
      by_answer : (r : External) (x : Option Way) → ext p ≡ Some r → answers_at s p (external_hop r) ≡ x → made_by external_hop over r x ≡ Some row → IsPrefixOf printing.v6 p × IsPrintable printing (fib_value row)
      by_answer r None at known is = absurd (cc)
      by_answer r (Some x) at known is = let own = prints p r at in outlet_print p r row x.outlet (answers_fit (IsWay printing.v6) s.known s.walk p ways (external_hop r) x known) own.0 own.1 is

      by_row : (o : Option External) → ext p ≡ o → goes_on external_hop over (answers_at s p) o ≡ Some row → IsPrefixOf printing.v6 p × IsPrintable printing (fib_value row)
      by_row None at is = absurd (cc)
      by_row (Some r) at is = by_answer r (answers_at s p (external_hop r)) at refl is

  table_print : (s : Resolving Way) (int : Rows Interior) (ext : Rows External) → HaveWays printing.v6 s → Prints printing interior_value int → Prints printing external_value ext → Prints printing fib_value (fib_table s int ext)
  table_print s int ext ways interior external = merged_print printing fib_value fib_distance (forwarded int) (resolved_rows s ext) (forwarded_print printing int interior) (resolved_print s ext ways external)

  -- the rows of `ext` and `fib`, where the RIB's exit has these best routes
  pub ext_print : (e : RibExit) (best : Rows Route) → StandsOver best e → AreBestRows profile printing best → Prints printing external_value (ext_rows e)
  ext_print e best stands are = subst (Prints printing external_value) (sym (ext_is_of_best e best stands)) (external_print best are)

  pub fib_print : (e : RibExit) (best : Rows Route) (int : Rows Interior) → StandsOver best e → AreBestRows profile printing best → HaveWays printing.v6 e.forwarding → Prints printing interior_value int → Prints printing fib_value (fib_over e int)
  fib_print e best int stands are ways interior = table_print e.forwarding int (ext_rows e) ways interior (ext_print e best stands are)

  pub fib_printed : (old new : Rows FibRow) (p : AddressPrefix) (fib : Option (Change FibRow)) → Prints printing fib_value old → Prints printing fib_value new → IsSent old new p fib → ArePrintedEntries printing (fib_entries fib)
  fib_printed old new p fib before then is = sent_printed printing fib_value Fib old new p fib tt before then is

  -- ---- what goes on from the splitter to `fib`
  abbrev Is : Entry Value → Type 0
  Is e = IsPrinted printing (lines.Journal e)

  named : (link : BgpLink) → IsNamed (journal_link link)
  named sides.Ebgp = tt
  named sides.Ibgp = tt

  -- each link of the two
  abbrev AllPrint : Parted → Type 0
  AllPrint rows = (link : BgpLink) → Prints printing external_value (rows link)

  first_print : (link : BgpLink) (old new : Parted) → AllPrint old → AllPrint new → AllPrint (first_on link old new)
  first_print sides.Ebgp old new before then sides.Ebgp = then sides.Ebgp
  first_print sides.Ebgp old new before then sides.Ibgp = before sides.Ibgp
  first_print sides.Ibgp old new before then sides.Ebgp = before sides.Ebgp
  first_print sides.Ibgp old new before then sides.Ibgp = then sides.Ibgp

  both_print : (rows : Parted) → AllPrint rows → Prints printing external_value (merged_links rows)
  both_print rows each = merged_print printing external_value external_distance (rows sides.Ebgp) (rows sides.Ibgp) (each sides.Ebgp) (each sides.Ibgp)

  part_printed : (link : BgpLink) (change : Change External) (caused : Caused) (old new : Parted) (p : AddressPrefix) → AllPrint old → AllPrint new → IsSent (old link) (new link) p (Some change)
      → IsSent (merged_links old) (merged_links new) p caused.ext → ArePrintedEntries printing (fib_entries caused.fib) → ArePrintedEntries printing (part_entries link change caused)
  part_printed link change caused old new p before then sent ext fib =
      all_both Is (valued_change external_value (journal_link link) change) (caused_entries caused) (sent_printed printing external_value (journal_link link) (old link) (new link) p (Some change) (named link) (before link) (then link) sent)
      (all_both Is (sent_entries external_value Ext caused.ext) (fib_entries caused.fib) (sent_printed printing external_value Ext (merged_links old) (merged_links new) p caused.ext tt (both_print old before) (both_print new then) ext) fib)

  -- at most one of the two changes `fib`
  one_printed : (old new : Rows FibRow) (p : AddressPrefix) (first second : Caused) → Prints printing fib_value old → Prints printing fib_value new → IsSent old new p (option_or first.fib second.fib)
      → (first.ext ≡ None) ⊎ (second.ext ≡ None) → (first.ext ≡ None → first.fib ≡ None) → (second.ext ≡ None → second.fib ≡ None) → ArePrintedEntries printing (fib_entries first.fib) × ArePrintedEntries printing (fib_entries second.fib)
  one_printed old new p first second before then is (inl none) by_first by_second =
      let gone = by_first none in
      let sent : IsSent old new p second.fib = subst (λ (o : Option (Change FibRow)). IsSent old new p (option_or o second.fib)) gone is in
      (subst (λ (o : Option (Change FibRow)). ArePrintedEntries printing (fib_entries o)) (sym gone) tt, fib_printed old new p second.fib before then sent)
  one_printed old new p first second before then is (inr none) by_first by_second =
      let gone = by_second none in
      let sent : IsSent old new p first.fib = subst (IsSent old new p) (or_none first.fib) (subst (λ (o : Option (Change FibRow)). IsSent old new p (option_or first.fib o)) gone is) in
      (fib_printed old new p first.fib before then sent, subst (λ (o : Option (Change FibRow)). ArePrintedEntries printing (fib_entries o)) (sym gone) tt)

  split_printed : (split : Split) (first second : Caused) (old new : Parted) (p : AddressPrefix) → AllPrint old → AllPrint new → Splits old new p split → CausesOn p split first.ext second.ext old new
      → ArePrintedEntries printing (fib_entries first.fib) × ArePrintedEntries printing (fib_entries second.fib) → ArePrintedEntries printing (fall_entries split first second)
  split_printed Neither first second old new p before then splits causes fibs = tt
  split_printed (One link change) first second old new p before then splits causes fibs = part_printed link change first old new p before then splits.0 causes.0 fibs.0
  split_printed (Moved link add delete) first second old new p before then splits causes fibs =
      let mid = first_print link old new before then in
      all_both Is (part_entries link add first) (part_entries (other link) delete second)
      (part_printed link add first old (first_on link old new) p before mid splits.first.0 causes.0 fibs.0) (part_printed (other link) delete second (first_on link old new) new p mid then splits.second.0 causes.1 fibs.1)

  -- from these best routes to those
  pub external_printed : (p : AddressPrefix) (int : Rows Interior) (split : Split) (first second : Caused) (was : Registry Interior) (e e' : RibExit) (entries : List (Entry Value)) (best now : Rows Route)
      → StandsOver best e → AreBestRows profile printing best → AreBestRows profile printing now → HaveWays printing.v6 e.forwarding → HaveWays printing.v6 e'.forwarding → Prints printing interior_value int
      → FallsOn p int split first second was e e' entries best now → ArePrintedEntries printing (fall_entries split first second)
  external_printed p int split first second was e e' entries best now stands before then ways ways' interior f =
      split_printed split first second (split_rows best) (split_rows now) p (λ link. side_print link best before) (λ link. side_print link now then) f.splits f.causes
      (one_printed (fib_over e int) (fib_over e' int) p first second (fib_print e best int stands before ways interior) (fib_print e' now int f.stands then ways' interior) f.fib f.once f.first_by f.second_by)
