-- From the links of one chain to those of all exits.
use Rattle.std.proofs.Common.{◌≡◌, ◌≢◌, ℕ, cond, List, nat_eq, refl, sym, ap, subst}
use Rattle.bgp_attr.specs.Routes.{Route}
use Rattle.link_change.specs.Rows.{Rows}
use Rattle.link_change.proofs.RowLemmas.{same_function}
use Rattle.journal_text.specs.declared.link.Link.{Link}
use Rattle.journal_text.specs.declared.link.Link.TheVariants.{Read, Outf, Adv}
use Rattle.journal_text.specs.Lines.{Entry}
use Rattle.journal_text.specs.Lines.{Value}
use Rattle.journal_text.specs.Walk.{Links, Leads}
use Rattle.journal_text.specs.Links.{owner_of}
use Rattle.out_chain.specs.Chains.{beside_out}
use Rattle.out_chain.specs.Steps.{LeadsOut, LeadsFromBest}
use Rattle.exit_side.specs.Exits.{Exited, chain_at, links_by, exit_links}
use Rattle.exit_side.specs.Steps.{beside, LeadsExits, LeadsWithBest}
use Rattle.exit_side.proofs.SwapLemmas.{by_number}

-- where the links of every other peer stay
module _ (j : ℕ) (e e' : Exited) (best : Rows Route) (stay : (k : ℕ) → k ≢ j → links_by e'.queue best (chain_at k e') ≡ links_by e.queue best (chain_at k e)) where
  abbrev was : Links Value
  was = links_by e.queue best (chain_at j e)

  abbrev now : Links Value
  now = links_by e'.queue best (chain_at j e')

  module _ (others : Links Value) where
    abbrev all : Links Value
    all = beside others (exit_links e best)

    was_at : (link : Link) (k : ℕ) → cond (nat_eq k j) (was link) (links_by e.queue best (chain_at k e) link) ≡ links_by e.queue best (chain_at k e) link
    was_at link k = by_number k j (λ b. cond b (was link) (links_by e.queue best (chain_at k e) link) ≡ links_by e.queue best (chain_at k e) link)
        (λ is. ap (λ (n : ℕ). links_by e.queue best (chain_at n e) link) (sym is)) (λ _. refl)

    -- a peer's links stand among those of all
    among : beside_out j all was ≡ all
    among = same_function _ _ each
      where
        each : (link : Link) → beside_out j all was link ≡ all link
        each (Read k t) = was_at (Read k t) k
        each (Outf k t) = was_at (Outf k t) k
        each (Adv k t) = was_at (Adv k t) k
        each other = refl

    now_at : (link : Link) (k : ℕ) → cond (nat_eq k j) (now link) (links_by e.queue best (chain_at k e) link) ≡ links_by e'.queue best (chain_at k e') link
    now_at link k = by_number k j (λ b. cond b (now link) (links_by e.queue best (chain_at k e) link) ≡ links_by e'.queue best (chain_at k e') link)
        (λ is. ap (λ (n : ℕ). links_by e'.queue best (chain_at n e') link) (sym is)) (λ differ. ap (λ (l : Links Value). l link) (sym (stay k differ)))

    -- and so do those that take their place
    among_now : beside_out j all now ≡ beside others (exit_links e' best)
    among_now = same_function _ _ each
      where
        each : (link : Link) → beside_out j all now link ≡ beside others (exit_links e' best) link
        each (Read k t) = now_at (Read k t) k
        each (Outf k t) = now_at (Outf k t) k
        each (Adv k t) = now_at (Adv k t) k
        each other = refl

    led : (entries : List (Entry Value)) → Leads (beside_out j all was) entries (beside_out j all now) → Leads all entries (beside others (exit_links e' best))
    led entries leads = subst (λ (l : Links Value). Leads all entries l) among_now (subst (λ (l : Links Value). Leads l entries (beside_out j all now)) among leads)

  module _ (old new : Links Value) (old_is : was ≡ old) (new_is : now ≡ new) (entries : List (Entry Value)) where
    as_they_are : (others : Links Value) → Leads (beside_out j others old) entries (beside_out j others new) → Leads (beside_out j others was) entries (beside_out j others now)
    as_they_are others leads =
        subst (λ (l : Links Value). Leads (beside_out j others l) entries (beside_out j others now)) (sym old_is)
        (subst (λ (l : Links Value). Leads (beside_out j others old) entries (beside_out j others l)) (sym new_is) leads)

    -- what leads one chain on, leads the exits on
    pub leads_exits : LeadsOut j old entries new → LeadsExits (exit_links e best) entries (exit_links e' best)
    leads_exits leads others = led others entries (as_they_are (all others) (leads (all others)))

    pub leads_with_best : LeadsFromBest j best old entries new → LeadsWithBest best (exit_links e best) entries (exit_links e' best)
    leads_with_best leads others is = led others entries (as_they_are (all others) (leads (all others) is))

-- where the links of every peer stay, all do
pub links_same : (e e' : Exited) (best best' : Rows Route) → ((k : ℕ) → links_by e'.queue best' (chain_at k e') ≡ links_by e.queue best (chain_at k e)) → exit_links e' best' ≡ exit_links e best
links_same e e' best best' stay = same_function _ _ (λ link. ap (λ (l : Links Value). l link) (stay (owner_of link)))
