-- What one region's part does, whatever the others have.
use Rattle.router_moments.proofs.Common.{sym, subst, ap, ◌≡◌, ℕ, refl, List, Route, hop_links, entries_of_entries, entries_of, Leads, Entry, Link, Value, Rows, joined, with_side, Sides, LeadsIn, region_of, Region, Decided, Inward, Redistributed, Resolved, Outward, InteriorRoutes, Forward, Chains, filt_at, peer_links, int_rows, Treed, own_rows, best_at, best_links, own_links, Moment, best_of, router_links, own_of, with_chains, with_tree, parts, tree_by, forward_by, read_links, journal_lines}
use Rattle.link_region.specs.declared.regions.Region.TheVariants.{External}
use Rattle.exit_side.specs.Exits.{exit_links}
use Rattle.router_moments.proofs.BestLemmas.{best_quiet}

-- a link, by its region
pub in_region : (m : Moment) (link : Link) (r : Region) → region_of link ≡ r → router_links m link ≡ parts m r link
in_region m link r is = ap (λ (e : Region). parts m e link) is

-- ---- the part of one region set in `parts`: a line for each side
-- the rows of `res.K` follow those of `filt.K`, which stay here
pub inward_set : (m : Moment) (cs : Chains) → ((j : ℕ) → filt_at cs j ≡ filt_at m.chains j) → with_side (parts m) Inward (peer_links cs) ≡ parts (with_chains m cs)
inward_set m cs quiet i r = each r i
  where
    same : best_of m ≡ best_at (own_of m) cs m.hops
    same = sym (best_quiet (own_of m) m.chains cs m.hops quiet)

    each : (r : Region) → with_side (parts m) Inward (peer_links cs) r ≡ parts (with_chains m cs) r
    each Inward = refl
    each Resolved = ap (hop_links m.hops) (λ i j. sym (quiet j) i)
    each Decided = ap (best_links m.declared.speaker) same
    each External = ap (read_links m.exits.queue m.reader) same
    each Outward = ap (exit_links m.exits) same
    each other = refl

-- where the rows of `int` stay, all that is below does
pub interior_set : (m : Moment) (t : Treed) → int_rows t ≡ int_rows m.tree → with_side (parts m) InteriorRoutes (tree_by m.declared.speaker t) ≡ parts (with_tree m t)
interior_set m t quiet i s = each s i
  where
    own : own_of m ≡ own_of (with_tree m t)
    own = ap (own_rows m.declared.speaker m.redist) (sym quiet)

    same : best_of m ≡ best_of (with_tree m t)
    same = ap (λ (rows : Rows Route). best_at rows m.chains m.hops) own

    each : (s : Region) → with_side (parts m) InteriorRoutes (tree_by m.declared.speaker t) s ≡ parts (with_tree m t) s
    each Redistributed = ap (own_links m.declared.speaker) own
    each Decided = ap (best_links m.declared.speaker) same
    each External = ap (read_links m.exits.queue m.reader) same
    each Forward = ap (forward_by m.declared.speaker m.rib) (sym quiet)
    each Outward = ap (exit_links m.exits) same
    each other = refl

-- ---- in the router
pub leads_inward : (m : Moment) (cs : Chains) (entries : List (Entry Value)) → ((j : ℕ) → filt_at cs j ≡ filt_at m.chains j) → LeadsIn Inward (peer_links m.chains) entries (peer_links cs) → Leads (router_links m) (entries_of (journal_lines entries)) (router_links (with_chains m cs))
leads_inward m cs entries quiet leads =
    subst (λ (es : List (Entry Value)). Leads (router_links m) es (router_links (with_chains m cs))) (sym (entries_of_entries entries))
    (subst (λ (s : Sides). Leads (router_links m) entries (joined s)) (inward_set m cs quiet) (leads (parts m) refl))
