-- What follows of the lines that a network says: it stands behind them, keeps its peers, and serves who asked; and the lines can be printed.
use Rattle.std.proofs.Common.{◌≡◌, ℕ, ◌≤◌, Bool, List, [], ◌∷◌, ◌++◌, Option, Some, None, ⊎_elim, inl, inr, refl, sym, subst, ◌∙◌, arith, append_assoc}
use Rattle.std.specs.Prelude.{Contains, IsSome}
use Rattle.std.specs.List.{AllByRecursion}
use Rattle.std.proofs.lemmas.List.{append-nil}
use Rattle.std.proofs.lemmas.List.Elements.{Contains-append_left, Contains-append_right, Contains-append_cases}
use Rattle.addr4.specs.Prefixes.{AddressPrefix}
use Rattle.bgp_attr.specs.Attributes.{Attrs}
use Rattle.bgp_attr.specs.declared.speaker.Neighbour.{Neighbour}
use Rattle.bgp_attr.specs.declared.speaker.Profile.{Profile}
use Rattle.journal_text.specs.Lines.{Line, Value}
use Rattle.journal_text.specs.declared.line.Line.TheVariants.{Out}
use Rattle.journal_text.specs.declared.value.Value.TheVariants as values
use Rattle.journal_text.specs.Texts.{sender_number, entries_of}
use Rattle.journal_text.specs.Walk.{Leads}
use Rattle.journal_check.proofs.InkLemmas.{all_append}
use Rattle.event_text.specs.Event.{Event}
use Rattle.event_text.specs.declared.declared.DeclaredPeer.{DeclaredPeer}
use Rattle.event_text.specs.Declarations.{Declaration, peer_at}
use Rattle.in_chain.specs.Chains.{Chained}
use Rattle.peer_side.specs.Peers.{chain_at}
use Rattle.live_state.specs.Refreshes.{IsAnnounced}
use Rattle.journal_laws.specs.Printed.{Printing, IsTold, IsPrinted, values_in}
use Rattle.journal_laws.specs.Peers.{neighbours, words_in, printing, KeepsPeers}
use Rattle.exit_laws.specs.Views.{views_of}
use Rattle.router_moments.specs.Moments.{Moment, router_links}
use Rattle.router_moments.specs.Stands.{Stands, StandsAt}
use Rattle.router_moments.specs.Printable.{ArePrinted, IsHeard}
use Rattle.router_moments.specs.Refreshes.{IsServedAt, ServesOn}
use Rattle.router_moments.specs.Blocks.{Acts}
use Rattle.replay.proofs.Shares.{IsShare}

-- ---- peers
keeps_then : (a b c : Declaration) → KeepsPeers a b → KeepsPeers b c → KeepsPeers a c
keeps_then a b c p q = record {
  family = q.family ∙ p.family;
  words = λ k w there. q.words k w (p.words k w there);
  profile = λ k w there. q.profile k w (p.words k w there) ∙ p.profile k w there;
  nobody = q.nobody;
}

-- nobody has the number 0
nobody_by : (p : Option DeclaredPeer) (c : Option Chained) → StandsAt p c → (IsSome c → 1 ≤ 0) → words_in p ≡ None
nobody_by None None is least = refl
nobody_by None (Some c) is least = absurd is
nobody_by (Some p) None is least = absurd is
nobody_by (Some p) (Some c) is least = absurd (omega (arith, least refl))

keeps_same : (m : Moment) → Stands m → KeepsPeers m.declared m.declared
keeps_same m stands = record {
  family = refl;
  words = λ k w there. there;
  profile = λ k w there. refl;
  nobody = nobody_by (peer_at 0 m.declared.peers) (chain_at 0 m.chains) (stands.peers.each 0) (λ some. (stands.peers.numbers 0 some).0);
}

-- lines are printed, where more peers are declared
module _ (before now : Declaration) (keeps : KeepsPeers before now) where
  sender_kept : (o : Option Neighbour) → o ≡ neighbours before (sender_number o) → o ≡ neighbours now (sender_number o)
  sender_kept None told = sym keeps.nobody
  sender_kept (Some w) told = sym (keeps.words w.number w (sym told))

  abbrev as_before : Bool → Printing
  as_before v6 = record { v6 = v6; peers = neighbours before }

  abbrev as_now : Bool → Printing
  as_now v6 = record { v6 = v6; peers = neighbours now }

  told_kept : (v6 : Bool) (v : Value) → IsTold (as_before v6) v → IsTold (as_now v6) v
  told_kept v6 (values.Attrs a) told = told
  told_kept v6 (values.Route r) told = (told.0, sender_kept r.from told.1)
  told_kept v6 (values.Interior r) told = told
  told_kept v6 (values.External r) told = told
  told_kept v6 (values.FibRow r) told = told

  all_told : (v6 : Bool) (vs : List Value) → AllByRecursion (IsTold (as_before v6)) vs → AllByRecursion (IsTold (as_now v6)) vs
  all_told v6 [] told = tt
  all_told v6 (v ∷ vs) told = (told_kept v6 v told.0, all_told v6 vs told.1)

  each_kept : (v6 : Bool) (said : List Line) → AllByRecursion (IsPrinted (as_before v6)) said → AllByRecursion (IsPrinted (as_now v6)) said
  each_kept v6 [] printed = tt
  each_kept v6 (line ∷ said) printed = (record { short = printed.0.short; told = all_told v6 (values_in line) printed.0.told }, each_kept v6 said printed.1)

  lines_kept : (said : List Line) → ArePrinted before said → ArePrinted now said
  lines_kept said printed = subst (λ (v6 : Bool). AllByRecursion (IsPrinted (as_now v6)) said) (sym keeps.family) (each_kept before.v6 said printed)

-- ---- one network
-- what follows of lines, be they of one event or of many
pub record IsFollowed (before : Moment) (own : List Line) (after : Moment) : Type 0 where
  pub stands : Stands after
  pub peers : KeepsPeers before.declared after.declared
  pub serves : ServesOn before own after
  pub printed : ArePrinted after.declared own

-- no line, and nothing happened
pub follows_none : (m : Moment) → Stands m → IsFollowed m [] m
follows_none m stands = record {
  stands = stands;
  peers = keeps_same m stands;
  serves = λ j s since is. subst (IsServedAt j s m) (sym (append-nil since)) is;
  printed = tt;
}

pub followed_then : (a b c : Moment) (xs ys : List Line) → IsFollowed a xs b → IsFollowed b ys c → IsFollowed a (xs ++ ys) c
followed_then a b c xs ys f g = record {
  stands = g.stands;
  peers = keeps_then a.declared b.declared c.declared f.peers g.peers;
  serves = λ j s since is. subst (IsServedAt j s c) (append_assoc since xs ys) (g.serves j s (since ++ xs) (f.serves j s since is));
  printed = all_append (IsPrinted (printing c.declared)) xs ys (lines_kept b.declared c.declared g.peers xs f.printed) g.printed;
}

-- the lines of one event lead its links on, and what its peers hear
pub record Moves (before : Moment) (own : List Line) (after : Moment) : Type 0 where
  pub leads : Leads (router_links before) (entries_of own) (router_links after)
  pub heard : IsHeard before own after
  pub followed : IsFollowed before own after

-- ---- an event that acts
module _ (m : Moment) (own share : List Line) (s : IsShare own share) where
  told_more : (since : List Line) (j : ℕ) (octets : List ℕ) → Contains (since ++ own) (Out j octets) → Contains (since ++ share) (Out j octets)
  told_more since j octets among =
      ⊎_elim (λ before. Contains-append_left since share (Out j octets) before) (λ now. Contains-append_right since share (Out j octets) (s.told j octets now)) (Contains-append_cases since own (Out j octets) among)

  announced : (profile : Profile) (external : Bool) (since : List Line) (j : ℕ) (p : AddressPrefix) (attrs : Attrs) → IsAnnounced profile external j (since ++ own) p attrs → IsAnnounced profile external j (since ++ share) p attrs
  announced profile external since j p attrs is = record { octets = is.octets; among = told_more since j is.octets is.among; reads = is.reads }

  served : (j k : ℕ) (since : List Line) → IsServedAt j k m (since ++ own) → IsServedAt j k m (since ++ share)
  served j k since is = record {
    begun = is.begun;
    served = λ c at session p attrs has. ⊎_elim inl (λ told. inr (announced c.exit.profile c.exit.external since j p attrs told)) (is.served c at session p attrs has);
  }

pub acts_move : (m m' : Moment) (event : Event) (turns : ℕ) (own share : List Line) → Acts m event turns m' own → IsShare own share → Moves m share m'
acts_move m m' event turns own share a s = record {
  leads = subst (λ entries. Leads (router_links m) entries (router_links m')) (sym s.entries) a.leads;
  heard = s.heard m.declared.profile (neighbours m.declared) (views_of m.exits) (views_of m'.exits) a.heard;
  followed = record {
    stands = a.stands;
    peers = a.peers;
    serves = λ j k since is. served m' own share s j k since (a.serves j k since is);
    printed = lines_kept m.declared m'.declared a.peers share (s.printed (printing m.declared) a.printed);
  };
}
