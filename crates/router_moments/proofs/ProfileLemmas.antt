-- What lines say of the whole file: before `local` messages are read and written by another profile from now on, and nothing else changes.
use Rattle.router_moments.proofs.Common.{sym, subst, ◌∙◌, ap, ◌≡◌, ℕ, refl, List, true, false, Bool, cond, ◌&&◌, get-empty, nat_cmp, Route, Printing, Profile, Speaker, peer_at, Declaration, with_session, with_whole, without_session, DeclaredPeer, Event, Down, Bgp, Whole, Up, ArePrintableExits, unread_or_none, Journaled, flushed, Link, Adv, Read, Outf, Rows, Change, declared_after, OutChained, StandsOver, IsBlock, live_state, Moment, best_of, router_links, Gives, read_rows_by, read_of, read_by, Stands, ExitsAt, ReadsOn, MaySend, HasStepped}
use Rattle.event_text.specs.declared.event.WholeFile.{WholeFile}
use Rattle.event_text.specs.declared.event.WholeFile.TheVariants.{As4, Revised, Reflect}
use Rattle.std.proofs.Common.{not, [], Option, Some, None}
use Rattle.std.specs.FinMap as tables
use Rattle.journal_text.specs.declared.link.Link.TheVariants.{ReadRib}
use Rattle.exit_side.specs.Exits.{no_exits, links_by, chain_at as exit_at}
use Rattle.exit_side.proofs.LawLemmas.{stands_at_first}
use Rattle.exit_laws.proofs.KeptLemmas.{empty_is_printed}
use Rattle.exit_laws.specs.Views.{sent_by, views_of}
use Rattle.live_state.specs.Messages.{ends_session}
use Rattle.live_state.specs.Declared.{declared_up, declared_down, declared_heard}
use Rattle.live_state.specs.Lives.{LiveAfter}
use Rattle.router_moments.specs.Moments.{profiled}
use Rattle.router_moments.proofs.BeforeLocal.{no_chain, no_exit, no_reader, read_before}
use Rattle.router_moments.proofs.KeepLemmas.{gives_none}
use Rattle.router_moments.proofs.QueueLemmas.{exits_none}

-- ---- the profile after an event
abbrev pub profile_after : Profile → Event → Profile
profile_after profile (Whole word) = with_whole word profile
profile_after profile other = profile

-- it is of the same family, and says as before whether IPv6 is spoken
pub whole_second : (word : WholeFile) (profile : Profile) → (with_whole word profile).second ≡ profile.second
whole_second As4 profile = refl
whole_second Revised profile = refl
whole_second Reflect profile = refl

pub whole_spoken : (word : WholeFile) (profile : Profile) → (with_whole word profile).v6 ≡ profile.v6
whole_spoken As4 profile = refl
whole_spoken Revised profile = refl
whole_spoken Reflect profile = refl

pub second_follows : (profile : Profile) (event : Event) → (profile_after profile event).second ≡ profile.second
second_follows profile (Whole word) = whole_second word profile
second_follows profile other = refl

pub spoken_follows : (profile : Profile) (event : Event) → (profile_after profile event).v6 ≡ profile.v6
spoken_follows profile (Whole word) = whole_spoken word profile
spoken_follows profile other = refl

up_keeps : (d : Declaration) (k : ℕ) (o : Option DeclaredPeer) → d.profile ≡ (declared_up d k o).profile
up_keeps d k None = refl
up_keeps d k (Some p) = elim p.up as (λ (b : Bool). d.profile ≡ (cond b d (with_session d k)).profile) [ true ↦ refl | false ↦ refl ]

ends_keeps : (d : Declaration) (k : ℕ) (b : Bool) → d.profile ≡ (cond b (without_session d k) d).profile
ends_keeps d k true = refl
ends_keeps d k false = refl

down_keeps : (d : Declaration) (k : ℕ) (o : Option DeclaredPeer) → d.profile ≡ (declared_down d k o).profile
down_keeps d k None = refl
down_keeps d k (Some p) = ends_keeps d k p.up

heard_keeps : (d : Declaration) (k : ℕ) (octets : List ℕ) (o : Option DeclaredPeer) → d.profile ≡ (declared_heard d k octets o).profile
heard_keeps d k octets None = refl
heard_keeps d k octets (Some p) = ends_keeps d k (p.up && ends_session d.profile (not p.words.internal) octets)

pub profile_follows : (d : Declaration) (event : Event) → profile_after d.profile event ≡ (declared_after d event).profile
profile_follows d (Up k) = up_keeps d k (peer_at k d.peers)
profile_follows d (Down k) = down_keeps d k (peer_at k d.peers)
profile_follows d (Bgp k octets) = heard_keeps d k octets (peer_at k d.peers)
profile_follows d other = refl

-- ---- the family is the same after each event
same_up : (d : Declaration) (k : ℕ) (o : Option DeclaredPeer) → (declared_up d k o).v6 ≡ d.v6
same_up d k None = refl
same_up d k (Some p) = elim p.up as (λ (b : Bool). (cond b d (with_session d k)).v6 ≡ d.v6) [ true ↦ refl | false ↦ refl ]

same_ends : (d : Declaration) (k : ℕ) (b : Bool) → (cond b (without_session d k) d).v6 ≡ d.v6
same_ends d k true = refl
same_ends d k false = refl

same_down : (d : Declaration) (k : ℕ) (o : Option DeclaredPeer) → (declared_down d k o).v6 ≡ d.v6
same_down d k None = refl
same_down d k (Some p) = same_ends d k p.up

same_heard : (d : Declaration) (k : ℕ) (octets : List ℕ) (o : Option DeclaredPeer) → (declared_heard d k octets o).v6 ≡ d.v6
same_heard d k octets None = refl
same_heard d k octets (Some p) = same_ends d k (p.up && ends_session d.profile (not p.words.internal) octets)

pub family_follows : (d : Declaration) (event : Event) → (declared_after d event).v6 ≡ d.v6
family_follows d (Up k) = same_up d k (peer_at k d.peers)
family_follows d (Down k) = same_down d k (peer_at k d.peers)
family_follows d (Bgp k octets) = same_heard d k octets (peer_at k d.peers)
family_follows d other = refl

-- ---- what stands before `local`
-- exits that nobody has yet can be printed
pub nothing_printable : (profile : Profile) (printing : Printing) → profile.second ≡ printing.v6 → ArePrintableExits profile printing (no_exits profile)
nothing_printable profile printing family = empty_is_printed profile printing (no_exits profile) family (λ j. get-empty {X = OutChained} nat_cmp j) (λ reader. ap unread_or_none (get-empty {X = List (Change Route)} nat_cmp reader))

module _ (m : Moment) (profile : Profile) (stands : Stands m) (first : m.declared.speaker ≡ None) where
  abbrev then : Moment
  then = profiled m profile

  read_then : read_of then ≡ read_of m
  read_then = ap (λ (o : Option ℕ). read_rows_by tables.empty o (best_of m)) (no_reader m stands first) ∙ sym (read_before m stands first)

  pub then_stands : Stands then
  then_stands = record {
    peers = stands.peers;
    interior = stands.interior;
    registered = stands.registered;
    hops = stands.hops;
    exits = record {
      rows = λ k c at. absurd (let none = no_chain m stands first k in cc);
      each = (stands_at_first profile).sound;
      all = λ reader unread at. absurd (let none = get-empty {X = List (Change Route)} nat_cmp reader in cc);
      read = (stands_at_first profile).stand (best_of then);
      profile = refl;
      sender = subst (MaySend profile) (sym first) tt;
      sessions = λ k. subst (λ (o : Option OutChained). ExitsAt m.declared.speaker m.outgoing k (peer_at k m.declared.peers) o) (sym (get-empty {X = OutChained} nat_cmp k))
          (exits_none m.declared.speaker m.outgoing k (peer_at k m.declared.peers));
      one = subst (λ (s : Option Speaker). ReadsOn s m.reader (no_exits profile)) (sym first) (subst (λ (o : Option ℕ). ReadsOn None o (no_exits profile)) (sym (no_reader m stands first)) tt);
      external = subst (λ (rows : Rows Route). StandsOver rows m.rib) (sym read_then) stands.exits.external;
    };
    external = stands.external;
    waits = stands.waits;
  }

  -- no link of an exit is live, and `read.rib` isn't
  of_exit : (j : ℕ) (link : Link) → links_by m.exits.queue (best_of m) (exit_at j m.exits) link ≡ links_by tables.empty (best_of then) (exit_at j (no_exits profile)) link
  of_exit j link =
      ap (λ (o : Option OutChained). links_by m.exits.queue (best_of m) o link) (no_exit m stands first j)
      ∙ sym (ap (λ (o : Option OutChained). links_by tables.empty (best_of then) o link) (get-empty {X = OutChained} nat_cmp j))

  links_then : router_links m ≡ router_links then
  links_then i link = each link i
    where
      each : (link : Link) → router_links m link ≡ router_links then link
      each ReadRib = ap (λ (o : Option ℕ). read_by m.exits.queue o (best_of m)) (no_reader m stands first) ∙ sym (ap (λ (o : Option ℕ). read_by tables.empty o (best_of then)) (no_reader m stands first))
      each (Read j s) = of_exit j (Read j s)
      each (Outf j s) = of_exit j (Outf j s)
      each (Adv j s) = of_exit j (Adv j s)
      each other = refl

  views_then : views_of then.exits ≡ views_of m.exits
  views_then i j = ap sent_by (get-empty {X = OutChained} nat_cmp j ∙ sym (no_exit m stands first j)) i

  pub profile_stepped : (event : Event) → IsBlock m event [] 0 then → LiveAfter (live_state m) event (live_state then) → HasStepped m event 0 then []
  profile_stepped event block after = record {
    block = block;
    live = live_state then;
    after = after;
    keeps = record { leads = record { lawful = tt; ends = links_then }; live = refl; stands = then_stands; heard = views_then };
  }

-- the same of the moment after it, and the text of no lines
pub profile_is_stepped : (m m' : Moment) (event : Event) (profile wanted : Profile) (before now : Journaled) → Stands m → m.declared.speaker ≡ None → m' ≡ profiled m profile → profile ≡ wanted
    → IsBlock m event [] 0 (profiled m wanted) → LiveAfter (live_state m) event (live_state (profiled m wanted)) → now ≡ flushed before → Gives (HasStepped m event 0 m') before now
profile_is_stepped m m' event profile wanted before now stands first after is block live flush =
    gives_none (HasStepped m event 0 m') before now
    (subst (λ (x : Moment). HasStepped m event 0 x []) (sym (after ∙ ap (profiled m) is)) (profile_stepped m wanted stands first event block live)) flush
