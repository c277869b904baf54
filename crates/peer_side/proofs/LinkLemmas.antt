-- From the links of one chain to those of all peers.
use Rattle.std.proofs.Common.{◌≡◌, ℕ, Bool, true, false, ◌&&◌, cond, List, [], ◌∷◌, Option, Some, None, nat_eq, refl, sym, ap, subst, ◌∙◌}
use Rattle.std.specs.FinMap as tables
use Rattle.std.specs.FinMap.{get-empty}
use Rattle.std.specs.Ordering.{nat_cmp}
use Rattle.bgp_attr.specs.Attributes.{Attrs}
use Rattle.bgp_attr.specs.Speakers.{Speaker}
use Rattle.bgp_attr.specs.declared.speaker.Neighbour.{Neighbour}
use Rattle.link_change.specs.Rows.{Rows, no_rows}
use Rattle.link_change.proofs.RowLemmas.{empty_rows, same_function}
use Rattle.filter_bank.specs.Filtered.{filtered_rows}
use Rattle.journal_text.specs.declared.link.Link.{Link}
use Rattle.journal_text.specs.declared.link.Link.TheVariants.{In, Peer, Filt}
use Rattle.journal_text.specs.Lines.{Entry}
use Rattle.journal_text.specs.declared.entry.Entry.TheVariants.{Begin}
use Rattle.journal_text.specs.Lines.{Value}
use Rattle.journal_text.specs.Links.{owner_of}
use Rattle.journal_text.specs.Values.{attrs_rows, route_rows}
use Rattle.journal_text.specs.Walk.{Links, with_link, Leads}
use Rattle.link_region.specs.declared.regions.Region.TheVariants.{Inward}
use Rattle.link_region.specs.Regions.{Sides, joined, with_side, LeadsIn}
use Rattle.link_region.proofs.RegionLemmas.{by_bool, lead_join, lead_begin}
use Rattle.loss_chain.proofs.TableLemmas.{equal_by}
use Rattle.in_chain.specs.Incomings.{in_rows}
use Rattle.in_chain.specs.Chains.{Chained, links_of, filt_rows, beside}
use Rattle.in_chain.specs.Falls.{LeadsChain}
use Rattle.in_chain.specs.Steps.{new_chain}
use Rattle.peer_side.specs.Peers.{Chains, chain_at, put_chain, links_by, peer_links, begin_entries}
use Rattle.peer_side.proofs.PutLemmas.{at_put, put_here, put_other, put_kept}

-- a link that no chain has
pub none_by : (link : Link) → ((c : Chained) → links_of c link ≡ None) → (o : Option Chained) → links_by o link ≡ None
none_by link none None = refl
none_by link none (Some c) = none c

both_none : (link : Link) → ((c : Chained) → links_of c link ≡ None) → (o p : Option Chained) → links_by o link ≡ links_by p link
both_none link none o p = none_by link none o ∙ sym (none_by link none p)

-- ---- a chain in the place of another
module _ (a : Chains) (k : ℕ) (c : Chained) (at : chain_at k a ≡ Some c) (own : c.incoming.number ≡ k) (sides : Sides) (is : sides Inward ≡ peer_links a) where
  -- a chain's links stand among those of all
  old_at : (link : Link) (j : ℕ) → sides Inward link ≡ links_by (chain_at j a) link → cond (nat_eq j c.incoming.number) (links_of c link) (sides Inward link) ≡ sides Inward link
  old_at link j here = by_bool (nat_eq j c.incoming.number) (λ b. cond b (links_of c link) (sides Inward link) ≡ sides Inward link)
      (λ e. ap (λ (o : Option Chained). links_by o link) (sym at ∙ ap (λ (n : ℕ). chain_at n a) (sym (equal_by j c.incoming.number e ∙ own))) ∙ sym here) (λ _. refl)

  was : (link : Link) → sides Inward link ≡ peer_links a link
  was link = ap (λ (l : Links Value). l link) is

  beside_old : beside (joined sides) c ≡ joined sides
  beside_old i link = each link i
    where
      each : (link : Link) → beside (joined sides) c link ≡ joined sides link
      each (In j) = old_at (In j) j (was (In j))
      each (Peer j s) = old_at (Peer j s) j (was (Peer j s))
      each (Filt j) = old_at (Filt j) j (was (Filt j))
      each other = refl

  module _ (c' : Chained) (same : c'.incoming.number ≡ k) where
    new_at : (link : Link) (j : ℕ) → sides Inward link ≡ links_by (chain_at j a) link → cond (nat_eq j c'.incoming.number) (links_of c' link) (sides Inward link) ≡ links_by (chain_at j (put_chain k c' a)) link
    new_at link j here = by_bool (nat_eq j c'.incoming.number) (λ b. cond b (links_of c' link) (sides Inward link) ≡ links_by (chain_at j (put_chain k c' a)) link)
        (λ e. ap (λ (o : Option Chained). links_by o link) (sym (ap (λ (n : ℕ). chain_at n (put_chain k c' a)) (equal_by j c'.incoming.number e ∙ same) ∙ put_here k c' a)))
        (λ e. here ∙ ap (λ (o : Option Chained). links_by o link) (sym (put_other k c' a j (ap (nat_eq j) (sym same) ∙ e))))

    -- and so do those of the chain that takes its place
    beside_new : beside (joined sides) c' ≡ joined (with_side sides Inward (peer_links (put_chain k c' a)))
    beside_new i link = each link i
      where
        each : (link : Link) → beside (joined sides) c' link ≡ joined (with_side sides Inward (peer_links (put_chain k c' a))) link
        each (In j) = new_at (In j) j (was (In j))
        each (Peer j s) = new_at (Peer j s) j (was (Peer j s))
        each (Filt j) = new_at (Filt j) j (was (Filt j))
        each other = refl

    leads_here : (entries : List (Entry Value)) → LeadsChain c entries c' → Leads (joined sides) entries (joined (with_side sides Inward (peer_links (put_chain k c' a))))
    leads_here entries leads =
        subst (λ (l : Links Value). Leads (joined sides) entries l) beside_new (subst (λ (l : Links Value). Leads l entries (beside (joined sides) c')) beside_old (leads (joined sides)))

-- what leads one chain on, leads the side on
pub leads_peers : (a : Chains) (k : ℕ) (c c' : Chained) (entries : List (Entry Value)) → chain_at k a ≡ Some c → c.incoming.number ≡ k → c'.incoming.number ≡ k → LeadsChain c entries c'
    → LeadsIn Inward (peer_links a) entries (peer_links (put_chain k c' a))
leads_peers a k c c' entries at own same leads sides is = leads_here a k c at own sides is c' same entries leads

-- a chain whose links stay
pub links_kept : (a : Chains) (k : ℕ) (c c' : Chained) → chain_at k a ≡ Some c → links_of c' ≡ links_of c → peer_links (put_chain k c' a) ≡ peer_links a
links_kept a k c c' at same = same_function _ _ (λ link. put_kept (λ (o : Option Chained). links_by o link) k c' a (ap (λ (l : Links Value). l link) same ∙ ap (λ (o : Option Chained). links_by o link) (sym at)) (owner_of link))

-- ---- a chain that is new
module _ (a : Chains) (k : ℕ) (me : Speaker) (words : Neighbour) (own : words.number ≡ k) (absent : chain_at k a ≡ None) where
  abbrev fresh : Chained
  fresh = new_chain me words

  -- a link of the peer, which has none yet
  free : (link : Link) → owner_of link ≡ k → peer_links a link ≡ None
  free link of = ap (λ (n : ℕ). links_by (chain_at n a) link) of ∙ ap (λ (o : Option Chained). links_by o link) absent

  new_in : ◌≡◌ {A = Option (Rows Value)} (Some (attrs_rows (in_rows fresh.incoming))) (Some no_rows)
  new_in = ap (λ (rows : Rows Attrs). Some (attrs_rows rows)) (empty_rows {V = Attrs})

  new_filt : ◌≡◌ {A = Option (Rows Value)} (Some (route_rows (filt_rows fresh))) (Some no_rows)
  new_filt = ap (λ (rows : Rows Attrs). Some (route_rows (filtered_rows fresh.me fresh.peer [] rows))) (empty_rows {V = Attrs})

  abbrev between : Links Value
  between = with_link (peer_links a) (In k) (Some no_rows)

  -- a link that begins without rows, at its peer and at others
  begins : (j : ℕ) (link : Link) (rows : Rows Value) → ((b : Bool) → nat_eq j words.number ≡ b → links_of fresh link ≡ cond b (Some rows) None) → ◌≡◌ {A = Option (Rows Value)} (Some rows) (Some no_rows)
      → cond (nat_eq j k && true) (Some no_rows) (links_by (chain_at j a) link) ≡ links_by (chain_at j (put_chain k fresh a)) link
  begins j link rows has empty = by_bool (nat_eq j k) (λ b. cond (b && true) (Some no_rows) (links_by (chain_at j a) link) ≡ links_by (chain_at j (put_chain k fresh a)) link)
      (λ e. sym empty ∙ sym (has true (ap (nat_eq j) own ∙ e)) ∙ ap (λ (o : Option Chained). links_by o link) (sym (ap (λ (n : ℕ). chain_at n (put_chain k fresh a)) (equal_by j k e) ∙ put_here k fresh a)))
      (λ e. ap (λ (o : Option Chained). links_by o link) (sym (put_other k fresh a j e)))

  -- above a stage, which a new chain hasn't
  none_above : (j s : ℕ) → links_by (chain_at j a) (Peer j s) ≡ links_by (chain_at j (put_chain k fresh a)) (Peer j s)
  none_above j s = by_bool (nat_eq j k) (λ b. links_by (chain_at j a) (Peer j s) ≡ links_by (cond b (Some fresh) (chain_at j a)) (Peer j s))
      (λ e. ap (λ (o : Option Chained). links_by o (Peer j s)) (ap (λ (n : ℕ). chain_at n a) (equal_by j k e) ∙ absent) ∙ sym (nothing (nat_eq j words.number))) (λ _. refl)
      ∙ ap (λ (o : Option Chained). links_by o (Peer j s)) (sym (at_put k fresh a j))
    where
      nothing : (b : Bool) → ◌≡◌ {A = Option (Rows Value)} (cond b None None) None
      nothing true = refl
      nothing false = refl

  links_then : with_link between (Filt k) (Some no_rows) ≡ peer_links (put_chain k fresh a)
  links_then = same_function _ _ each
    where
      each : (link : Link) → with_link between (Filt k) (Some no_rows) link ≡ peer_links (put_chain k fresh a) link
      each (In j) = begins j (In j) (attrs_rows (in_rows fresh.incoming)) (λ b e. ap (λ (x : Bool). cond x (Some (attrs_rows (in_rows fresh.incoming))) None) e) new_in
      each (Filt j) = begins j (Filt j) (route_rows (filt_rows fresh)) (λ b e. ap (λ (x : Bool). cond x (Some (route_rows (filt_rows fresh))) None) e) new_filt
      each (Peer j s) = none_above j s
      each other = both_none other (λ d. refl) (chain_at (owner_of other) a) (chain_at (owner_of other) (put_chain k fresh a))

  pub begin_leads : LeadsIn Inward (peer_links a) (begin_entries k) (peer_links (put_chain k fresh a))
  begin_leads =
      lead_join Inward (peer_links a) between (peer_links (put_chain k fresh a)) (Begin (In k) ∷ []) (Begin (Filt k) ∷ [])
      (lead_begin Inward (peer_links a) between (In k) refl (free (In k) refl) refl)
      (lead_begin Inward between (peer_links (put_chain k fresh a)) (Filt k) refl (free (Filt k) refl) links_then)

-- ---- no peer
pub no_peer : (link : Link) → peer_links tables.empty link ≡ None
no_peer link = ap (λ (o : Option Chained). links_by o link) (get-empty nat_cmp (owner_of link))
