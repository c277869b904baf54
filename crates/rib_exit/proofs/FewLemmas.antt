-- The rows of `ebgp` and `ibgp` are no more than the routes of peers that were read, and the known next hops no more than the rows of
-- `ext` that name them.
use Rattle.std.proofs.Common.{◌≡◌, not, Bool, true, false, cond, Option, Some, None, is_some, IsSome, refl, sym, ap, ◌∙◌}
use Rattle.addr4.specs.Prefixes.{AddressPrefix}
use Rattle.addr4.proofs.PrefixOrder.{prefixes_total, exact_prefixes}
use Rattle.bgp_attr.specs.Routes.{Route}
use Rattle.link_change.specs.Rows.{Rows}
use Rattle.rib_route.specs.Rows.{External}
use Rattle.nexthop_resolver.specs.Kept.{external_hop}
use Rattle.nexthop_resolver.proofs.FewLemmas as resolver
use Rattle.rib_split.specs.declared.split.BgpLink.{BgpLink}
use Rattle.rib_split.specs.declared.split.BgpLink.TheVariants as sides
use Rattle.rib_split.specs.Splitting.{Parted, external_row, on_link}
use Rattle.rib_split.specs.Tables.{kept_rows}
use Rattle.rib_exit.specs.RibExits.{RibExit}
use Rattle.rib_exit.specs.Exits.{ext_rows, StandsOver}
use Rattle.rib_exit.specs.Laws.{RowsAreFew, KnownAreFew}

-- a row stands on one link alone
one_link : (row : Option External) → IsSome (on_link sides.Ebgp row) → IsSome (on_link sides.Ibgp row) → ⊥
one_link None a b = let clash : false ≡ true = a in cc
one_link (Some r) a b = by_side r.internal a b
  where
    by_side : (i : Bool) → IsSome (cond (not i) (Some r) None) → IsSome (cond i (Some r) None) → ⊥
    by_side true a b = let clash : false ≡ true = a in cc
    by_side false a b = let clash : false ≡ true = b in cc

of_row : (side : BgpLink) (row : Option External) → IsSome (on_link side row) → IsSome row
of_row side None there = there
of_row side (Some r) there = refl

module _ (e : RibExit) (best : Rows Route) (stands : StandsOver best e) where
  side_there : (side : BgpLink) (q : AddressPrefix) → IsSome (kept_rows e.splitter side q) → IsSome (on_link side (external_row (best q)))
  side_there side q there = ap (λ (rows : Parted). is_some (rows side q)) (sym stands.links) ∙ there

pub rows_are_few : RowsAreFew
rows_are_few e best prefixes stands covers =
    resolver.few_both prefixes_total exact_prefixes prefixes e.splitter.ebgp e.splitter.ibgp
    (λ q a b. one_link (external_row (best q)) (side_there e best stands sides.Ebgp q a) (side_there e best stands sides.Ibgp q b))
    (λ q there. covers q (of_row sides.Ebgp (external_row (best q)) (side_there e best stands sides.Ebgp q there)))
    (λ q there. covers q (of_row sides.Ibgp (external_row (best q)) (side_there e best stands sides.Ibgp q there)))

pub known_are_few : KnownAreFew
known_are_few e best prefixes sound stands covers = resolver.known_are_few external_hop (ext_rows e) e.forwarding prefixes sound.named stands.counted covers
