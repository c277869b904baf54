-- The links above `fib`, as they are told by the best routes that are lent.
use Rattle.std.proofs.Common.{◌≡◌, ◌<◌, ◌≤◌, ◌^◌, Bool, true, false, cond, not, ◌||◌, Option, Some, None, is_some, refl, sym, ap, subst, ◌∙◌}
use Rattle.std.specs.Prelude.{option_map}
use Rattle.addr4.specs.Blocks.{width}
use Rattle.addr4.specs.Prefixes.{AddressPrefix}
use Rattle.bgp_attr.specs.Routes.{Route}
use Rattle.link_change.specs.Rows.{Rows, Candidates, IsNextCandidate, CoversRows, with_rows, together}
use Rattle.link_change.proofs.RowLemmas.{same_function}
use Rattle.link_change.proofs.WalkLemmas as walk
use Rattle.rib_route.specs.Rows.{Interior}
use Rattle.rib_route.specs.Rows.{External}
use Rattle.rib_route.specs.Rows.{FibRow}
use Rattle.nexthop_resolver.proofs.MoveLemmas.{same_some}
use Rattle.rib_split.specs.declared.split.BgpLink.{BgpLink}
use Rattle.rib_split.specs.declared.split.BgpLink.TheVariants as sides
use Rattle.rib_split.specs.Splitting.{Parted, external_row, on_link, split_rows}
use Rattle.rib_split.specs.Tables.{kept_rows}
use Rattle.ext_int.specs.Fibs.{fib_table}
use Rattle.journal_text.specs.declared.link.Link.{Link}
use Rattle.journal_text.specs.declared.link.Link.TheVariants.{Ext, Fib}
use Rattle.journal_text.specs.Lines.{Value}
use Rattle.journal_text.specs.Walk.{HasRow}
use Rattle.journal_text.specs.Values.{external_value, fib_value, fib_rows}
use Rattle.rib_exit.specs.RibExits.{RibExit}
use Rattle.rib_exit.specs.Exits.{ext_rows, ext_candidates, external_rows, journal_link, exit_links, exit_candidates, StandsOver}
use Rattle.rib_exit.proofs.LawLemmas.{ext_is_of_best}

-- ---- a walk over the routes of one link
-- a prefix, if any
abbrev pub IsPlaced : Option AddressPrefix → Type 0
IsPlaced None = Unit {0}
IsPlaced (Some p) = (p.length ≤ width) × (p.address < 2 ^ width)

module _ (best : Rows Route) (link : BgpLink) where
  -- where both links together have rows, and where this one has
  abbrev pub Both : Candidates
  Both = with_rows (λ q. external_row (best q))

  abbrev pub Own : Candidates
  Own = with_rows (split_rows best link)

  -- what is no row of `ext` is none of the link
  neither : (row : Option External) → is_some row ≡ false → is_some (on_link link row) ≡ false
  neither None none = refl
  neither (Some r) none = absurd (let clash : true ≡ false = none in cc)

  not_own : (q : AddressPrefix) → Both q ≡ false → Own q ≡ false
  not_own q none = neither (external_row (best q)) none

  -- whether the route that the code finds is one of the link
  pub tested : (q : AddressPrefix) (row : Option External) (found b : Bool) → row ≡ split_rows best link q → found ≡ is_some row → found ≡ b → Own q ≡ b
  tested q row found b at is test = ap is_some (sym at) ∙ sym is ∙ test

  -- none is left
  pub none_more : (place : Option AddressPrefix) → IsNextCandidate Both place None → IsNextCandidate Own place None
  none_more = walk.none_more Both Own not_own

  -- the next route is one of the link
  pub one_found : (place : Option AddressPrefix) (p : AddressPrefix) → IsNextCandidate Both place (Some p) → Own p ≡ true → IsNextCandidate Own place (Some p)
  one_found = walk.one_found Both Own not_own

  -- it isn't, so the walk goes on
  pub goes_on : (place : Option AddressPrefix) (p : AddressPrefix) → IsNextCandidate Both place (Some p) → Own p ≡ false → (result : Option AddressPrefix)
      → IsNextCandidate Own (Some p) result → IsNextCandidate Own place result
  goes_on = walk.goes_on Both Own not_own

-- ---- under what ties the exit to the routes
module _ (e : RibExit) (best : Rows Route) (stands : StandsOver best e) where
  pub ext_lent : (λ q. external_row (best q)) ≡ ext_rows e
  ext_lent = sym (ext_is_of_best e best stands)

  side_lent : (side : BgpLink) → split_rows best side ≡ kept_rows e.splitter side
  side_lent side = ap (λ (rows : Parted). rows side) (sym stands.links)

  one_of_both : (row : Option External) → is_some (on_link sides.Ebgp row) || is_some (on_link sides.Ibgp row) ≡ is_some row
  one_of_both None = refl
  one_of_both (Some r) = by_side r.internal
    where
      by_side : (i : Bool) → is_some (cond (not i) (Some r) None) || is_some (cond i (Some r) None) ≡ true
      by_side true = refl
      by_side false = refl

  pub candidates_lent : with_rows (λ q. external_row (best q)) ≡ ext_candidates e
  candidates_lent =
      same_function _ _ (λ q. sym (one_of_both (external_row (best q))))
      ∙ ap (λ (rows : Parted). together (with_rows (rows sides.Ebgp)) (with_rows (rows sides.Ibgp))) (sym stands.links)

  module _ (int : Rows Interior) where
    -- ---- the row at a prefix
    side_link : (side : BgpLink) → exit_links e int (journal_link side) ≡ Some (external_rows (kept_rows e.splitter side))
    side_link sides.Ebgp = refl
    side_link sides.Ibgp = refl

    pub has_on : (link : Link) (side : BgpLink) (p : AddressPrefix) (row : Option External) (value : Option Value) → link ≡ journal_link side → row ≡ split_rows best side p
        → value ≡ option_map external_value row → HasRow (exit_links e int) link p value
    has_on link side p row value is at told =
        (external_rows (kept_rows e.splitter side), ap (exit_links e int) is ∙ side_link side, ap (λ (rows : Rows External). external_rows rows p) (sym (side_lent side)) ∙ ap (option_map external_value) (sym at) ∙ sym told)

    pub has_ext : (link : Link) (p : AddressPrefix) (row : Option External) (value : Option Value) → link ≡ Ext → row ≡ external_row (best p)
        → value ≡ option_map external_value row → HasRow (exit_links e int) link p value
    has_ext link p row value is at told =
        (external_rows (ext_rows e), ap (exit_links e int) is, ap (λ (rows : Rows External). external_rows rows p) (sym ext_lent) ∙ ap (option_map external_value) (sym at) ∙ sym told)

    pub has_fib : (link : Link) (p : AddressPrefix) (row : Option FibRow) (value : Option Value) → link ≡ Fib → row ≡ fib_table e.forwarding int (λ q. external_row (best q)) p
        → value ≡ option_map fib_value row → HasRow (exit_links e int) link p value
    has_fib link p row value is at told = (
      fib_rows (fib_table e.forwarding int (ext_rows e)),
      ap (exit_links e int) is,
      ap (λ (rows : Rows External). fib_rows (fib_table e.forwarding int rows) p) (sym ext_lent) ∙ ap (option_map fib_value) (sym at) ∙ sym told,
    )

    -- ---- where walks go
    module _ (candidates : Candidates) where
      pub next_on_side : (link : Link) (side : BgpLink) (place result : Option AddressPrefix) → link ≡ journal_link side → IsNextCandidate (with_rows (split_rows best side)) place result
          → IsNextCandidate (exit_candidates e candidates link) place result
      next_on_side link sides.Ebgp place result is next =
          subst (λ (c : Candidates). IsNextCandidate c place result) (ap with_rows (side_lent sides.Ebgp) ∙ ap (exit_candidates e candidates) (sym is)) next
      next_on_side link sides.Ibgp place result is next =
          subst (λ (c : Candidates). IsNextCandidate c place result) (ap with_rows (side_lent sides.Ibgp) ∙ ap (exit_candidates e candidates) (sym is)) next

      pub next_on_ext : (link : Link) (place result : Option AddressPrefix) → link ≡ Ext → IsNextCandidate (with_rows (λ q. external_row (best q))) place result
          → IsNextCandidate (exit_candidates e candidates link) place result
      next_on_ext link place result is next =
          subst (λ (c : Candidates). IsNextCandidate c place result) (candidates_lent ∙ ap (exit_candidates e candidates) (sym is)) next

      pub next_on_fib : (link : Link) (place result : Option AddressPrefix) → link ≡ Fib → IsNextCandidate (together candidates (with_rows (λ q. external_row (best q)))) place result
          → IsNextCandidate (exit_candidates e candidates link) place result
      next_on_fib link place result is next =
          subst (λ (c : Candidates). IsNextCandidate c place result) (ap (together candidates) candidates_lent ∙ ap (exit_candidates e candidates) (sym is)) next

      -- every row of `fib` stands at one
      pub covers_fib : (link : Link) → link ≡ Fib → CoversRows (together candidates (with_rows (λ q. external_row (best q)))) (fib_table e.forwarding int (λ q. external_row (best q)))
          → (rows : Rows Value) → exit_links e int link ≡ Some rows → CoversRows (exit_candidates e candidates link) rows
      covers_fib link is covers rows at =
          let here : CoversRows (together candidates (ext_candidates e)) (fib_table e.forwarding int (ext_rows e)) =
          subst (λ (c : Candidates). CoversRows (together candidates c) (fib_table e.forwarding int (ext_rows e))) candidates_lent
          (subst (λ (r : Rows External). CoversRows (together candidates (with_rows (λ q. external_row (best q)))) (fib_table e.forwarding int r)) ext_lent covers) in
          let own : fib_rows (fib_table e.forwarding int (ext_rows e)) ≡ rows = same_some _ rows (ap (exit_links e int) (sym is) ∙ at) in
          subst (λ (c : Candidates). CoversRows c rows) (ap (exit_candidates e candidates) (sym is))
          (subst (CoversRows (together candidates (ext_candidates e))) own (λ q none. ap (option_map fib_value) (here q none)))
