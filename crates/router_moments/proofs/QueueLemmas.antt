-- What a change of `best` makes of what reads it: it joins the queue, and no link of theirs changes.
use Rattle.router_moments.proofs.Common.{sym, subst, ◌∙◌, ap, ◌≡◌, ℕ, refl, true, false, cond, ForSome, itself, AddressPrefix, Route, Profile, Speaker, peer_at, Declaration, DeclaredPeer, Exited, AllStand, OutChains, IsExits, AllLead, route_rows, Link, IsSent, Rows, Change, OutChained, RowsMayBeHeard, MayBeHeard, StandsOver, int_rows, Queues, Moment, best_of, own_of, read_rows_by, read_by, read_links, rules_to, Policies, Stands, ExitsAt, ReadsOn, ExitsStand, MaySend, IsExitOf}
use Rattle.std.proofs.Common.{Option, Some, None}
use Rattle.std.specs.Prelude.{IsSome}
use Rattle.std.specs.FinMap as tables
use Rattle.journal_text.specs.declared.link.Link.TheVariants.{ReadRib}
use Rattle.fanout_queue.proofs.LeadLemmas.{put_keeps_read, put_keeps_readers, put_keeps_leading}
use Rattle.exit_side.specs.Exits.{chain_at as exit_at, exit_links}
use Rattle.router_moments.specs.Stands.{RowsWereHeard}
use Rattle.router_moments.proofs.HeardRows.{heard_best, heard_own_rows}

-- ---- who has none
pub exits_none : (s : Option Speaker) (policies : Policies) (k : ℕ) (p : Option DeclaredPeer) → ExitsAt s policies k p None
exits_none (Some me) policies k (Some p) = tt
exits_none (Some me) policies k None = tt
exits_none None policies k p = tt

pub none_before : (policies : Policies) (k : ℕ) (p : Option DeclaredPeer) (o : Option OutChained) → ExitsAt None policies k p o → o ≡ None
none_before policies k p None is = refl
none_before policies k p (Some c) is = absurd is

-- a peer that is up has its own
pub exit_of : (s : Option Speaker) (policies : Policies) (k : ℕ) (p : DeclaredPeer) (c : OutChained) → ExitsAt s policies k (Some p) (Some c) → (me : Speaker) × (s ≡ Some me) × IsExitOf me (rules_to k policies) p c
exit_of (Some me) policies k p c is = (me, refl, is)
exit_of None policies k p c is = absurd is

pub no_exit_down : (s : Option Speaker) (policies : Policies) (k : ℕ) (p : DeclaredPeer) (o : Option OutChained) → p.up ≡ false → ExitsAt s policies k (Some p) o → o ≡ None
no_exit_down s policies k p None down is = refl
no_exit_down s policies k p (Some c) down is = let x = exit_of s policies k p c is in let up = x.2.up in absurd (let clash : true ≡ false = sym up ∙ down in cc)

pub undeclared_none : (s : Option Speaker) (policies : Policies) (k : ℕ) (o : Option OutChained) → ExitsAt s policies k None o → o ≡ None
undeclared_none s policies k None is = refl
undeclared_none (Some me) policies k (Some c) is = absurd is
undeclared_none None policies k (Some c) is = absurd is

-- the reader of the forwarding side is one of the queue's
pub reads_live : (s : Option Speaker) (reader : Option ℕ) (e : Exited) → ReadsOn s reader e → (r : ℕ) → reader ≡ Some r → IsSome (tables.get e.queue r)
reads_live (Some me) (Some q) e on r is = let same : q ≡ r = cc in subst (λ (n : ℕ). IsSome (tables.get e.queue n)) same on.live
reads_live (Some me) None e on r is = absurd on
reads_live None (Some q) e on r is = absurd on
reads_live None None e on r is = absurd (cc)

pub reader_live : (m : Moment) → Stands m → (r : ℕ) → m.reader ≡ Some r → IsSome (tables.get m.exits.queue r)
reader_live m stands = reads_live m.declared.speaker m.reader m.exits stands.exits.one

-- where each reader stays live, and each chain keeps its reader
pub reads_on : (s : Option Speaker) (reader : Option ℕ) (e e' : Exited) → e'.chains ≡ e.chains → ((r : ℕ) → IsSome (tables.get e.queue r) → IsSome (tables.get e'.queue r)) → ReadsOn s reader e → ReadsOn s reader e'
reads_on (Some me) (Some r) e e' same live on = record { live = live r on.live; own = λ j c at. on.own j c (ap (λ (a : OutChains). tables.get a j) (sym same) ∙ at) }
reads_on (Some me) None e e' same live on = absurd on
reads_on None (Some r) e e' same live on = absurd on
reads_on None None e e' same live on = tt

-- ---- a change of `best`, or none
module _ (e e' : Exited) where
  pub queue_chains : (best : Option (Change Route)) → Queues best e e' → e'.chains ≡ e.chains
  queue_chains None q = ap (λ (x : Exited). x.chains) q
  queue_chains (Some c) q = ap (λ (x : Exited). x.chains) q.after

  pub queue_profile : (best : Option (Change Route)) → Queues best e e' → e'.profile ≡ e.profile
  queue_profile None q = ap (λ (x : Exited). x.profile) q
  queue_profile (Some c) q = ap (λ (x : Exited). x.profile) q.after

  pub queue_live : (best : Option (Change Route)) → Queues best e e' → (r : ℕ) → IsSome (tables.get e.queue r) → IsSome (tables.get e'.queue r)
  queue_live None q r live = subst (λ (x : Exited). IsSome (tables.get x.queue r)) (sym q) live
  queue_live (Some c) q r live = put_keeps_readers e.queue e'.queue c q.appends r live

  pub queue_sound : (best : Option (Change Route)) → Queues best e e' → IsExits e → IsExits e'
  queue_sound None q sound = subst IsExits (sym q) sound
  queue_sound (Some c) q sound = q.sound

  pub queue_links : (best : Option (Change Route)) (old new : Rows Route) (p : AddressPrefix) → Queues best e e' → IsSent old new p best → exit_links e' new ≡ exit_links e old
  queue_links None old new p q sent = ap (λ (x : Exited). exit_links x new) q ∙ ap (exit_links e) sent
  queue_links (Some c) old new p q sent = q.links old new p sent

  -- what the reader of the forwarding side has stays
  pub queue_rows : (best : Option (Change Route)) (reader : Option ℕ) (old new : Rows Route) (p : AddressPrefix) → ((r : ℕ) → reader ≡ Some r → IsSome (tables.get e.queue r)) → Queues best e e' → IsSent old new p best
      → read_rows_by e'.queue reader new ≡ read_rows_by e.queue reader old
  queue_rows best None old new p live q sent = refl
  queue_rows None (Some r) old new p live q sent = ap (λ (x : Exited). read_rows_by x.queue (Some r) new) q ∙ ap (read_rows_by e.queue (Some r)) sent
  queue_rows (Some c) (Some r) old new p live q sent = put_keeps_read e.queue e'.queue old new p c r q.appends sent (live r refl)

  queue_read : (best : Option (Change Route)) (reader : Option ℕ) (old new : Rows Route) (p : AddressPrefix) → ((r : ℕ) → reader ≡ Some r → IsSome (tables.get e.queue r)) → Queues best e e' → IsSent old new p best
      → read_by e'.queue reader new ≡ read_by e.queue reader old
  queue_read best None old new p live q sent = refl
  queue_read best (Some r) old new p live q sent = ap (λ (rows : Rows Route). Some (route_rows rows)) (queue_rows best (Some r) old new p live q sent)

  pub queue_external : (best : Option (Change Route)) (reader : Option ℕ) (old new : Rows Route) (p : AddressPrefix) → ((r : ℕ) → reader ≡ Some r → IsSome (tables.get e.queue r)) → Queues best e e' → IsSent old new p best
      → read_links e'.queue reader new ≡ read_links e.queue reader old
  queue_external best reader old new p live q sent i link = each link i
    where
      each : (link : Link) → read_links e'.queue reader new link ≡ read_links e.queue reader old link
      each ReadRib = queue_read best reader old new p live q sent
      each other = refl

  pub queue_all : (best : Option (Change Route)) (old new : Rows Route) (p : AddressPrefix) → Queues best e e' → IsSent old new p best → AllLead e.queue old → AllLead e'.queue new
  queue_all None old new p q sent all = subst (λ (x : Exited). AllLead x.queue new) (sym q) (subst (λ (rows : Rows Route). AllLead e.queue rows) (sym sent) all)
  queue_all (Some c) old new p q sent all = put_keeps_leading e.queue e'.queue old new p c q.appends sent all

  queue_stand : (f : Profile) (best : Option (Change Route)) (old new : Rows Route) (p : AddressPrefix) → e.profile ≡ f → RowsMayBeHeard f new → Queues best e e' → IsSent old new p best → AllStand old e → AllStand new e'
  queue_stand f None old new p is heard q sent all = subst (λ (x : Exited). AllStand new x) (sym q) (subst (λ (rows : Rows Route). AllStand rows e) (sym sent) all)
  queue_stand f (Some c) old new p is heard q sent all = q.stand old new p sent own all
    where
      own : ForSome c.after (λ r. MayBeHeard e.profile r.attrs)
      own r at = subst (λ (profile : Profile). MayBeHeard profile r.attrs) (sym is)
          (heard c.prefix r (ap (λ (rows : Rows Route). rows c.prefix) sent.2 ∙ ap (λ b. cond b c.after (old c.prefix)) (itself c.prefix) ∙ at))

-- ---- what stands then
-- where a change of `best` joined the queue, if one came, and the RIB's exit stands over all rows over which it stood
pub exits_fall : (m now : Moment) (best : Option (Change Route)) (p : AddressPrefix) → Stands m → RowsWereHeard m.declared.profile now.chains → Queues best m.exits now.exits → IsSent (best_of m) (best_of now) p best
    → now.declared ≡ m.declared → now.outgoing ≡ m.outgoing → now.reader ≡ m.reader → ((rows : Rows Route) → StandsOver rows m.rib → StandsOver rows now.rib) → ExitsStand now
exits_fall m now best p stands rows q sent declared outgoing reader over = record {
  rows = rows_then;
  each = queue_sound m.exits now.exits best q stands.exits.each;
  all = queue_all m.exits now.exits best (best_of m) (best_of now) p q sent stands.exits.all;
  read = queue_stand m.exits now.exits now.declared.profile best (best_of m) (best_of now) p profile_is (heard_best now.declared.profile (own_of now) now.chains now.hops (heard_own_rows now.declared.profile now.declared.speaker now.redist (int_rows now.tree) sender) rows_then) q sent stands.exits.read;
  profile = queue_profile m.exits now.exits best q ∙ profile_is;
  sender = sender;
  sessions = λ k. subst (λ d. ExitsAt d.speaker now.outgoing k (peer_at k d.peers) (exit_at k now.exits)) (sym declared)
      (subst (λ x. ExitsAt m.declared.speaker x k (peer_at k m.declared.peers) (exit_at k now.exits)) (sym outgoing)
      (subst (λ o. ExitsAt m.declared.speaker m.outgoing k (peer_at k m.declared.peers) o) (sym (ap (λ (a : OutChains). tables.get a k) (queue_chains m.exits now.exits best q))) (stands.exits.sessions k)));
  one = subst (λ d. ReadsOn d.speaker now.reader now.exits) (sym declared) (subst (λ x. ReadsOn m.declared.speaker x now.exits) (sym reader)
      (reads_on m.declared.speaker m.reader m.exits now.exits (queue_chains m.exits now.exits best q) (queue_live m.exits now.exits best q) stands.exits.one));
  external = subst (λ (r : Option ℕ). StandsOver (read_rows_by now.exits.queue r (best_of now)) now.rib) (sym reader)
      (over (read_rows_by now.exits.queue m.reader (best_of now))
      (subst (λ (x : Rows Route). StandsOver x m.rib) (sym (queue_rows m.exits now.exits best m.reader (best_of m) (best_of now) p (reader_live m stands) q sent)) stands.exits.external));
}
  where
    sender : MaySend now.declared.profile now.declared.speaker
    sender = subst (λ d. MaySend d.profile d.speaker) (sym declared) stands.exits.sender

    profile_is : m.exits.profile ≡ now.declared.profile
    profile_is = stands.exits.profile ∙ ap (λ (d : Declaration). d.profile) (sym declared)

    rows_then : RowsWereHeard now.declared.profile now.chains
    rows_then = subst (λ (d : Declaration). RowsWereHeard d.profile now.chains) (sym declared) rows

-- where nothing of the exits changes, nor `best`
pub exits_stay : (m now : Moment) → Stands m → RowsWereHeard m.declared.profile now.chains → best_of now ≡ best_of m → now.declared ≡ m.declared → now.outgoing ≡ m.outgoing → now.reader ≡ m.reader → now.exits ≡ m.exits
    → ((rows : Rows Route) → StandsOver rows m.rib → StandsOver rows now.rib) → ExitsStand now
exits_stay m now stands rows same declared outgoing reader exits over =
    exits_fall m now None (record { address = 0; length = 0 }) stands rows exits same declared outgoing reader over
