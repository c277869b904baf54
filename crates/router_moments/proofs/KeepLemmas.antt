-- Steps one after the other, and the journal that they leave.
use Rattle.router_moments.proofs.Common.{sym, subst, ◌∙◌, ap, ◌≡◌, ℕ, refl, List, ◌++◌, IfOk-weaker, Event, with_lines_append, leads_append, leads_nowhere, Journaled, flushed, with_lines, entries_of, Leads, Entry, Line, Value, LiveState, IsBlock, live_state, Moment, router_links, Gives, ArePrinted, Stands, Pushes, HasStepped, Keeps}
use Rattle.std.proofs.Common.{[], ◌∷◌, Result}
use Rattle.std.specs.Result.{IfOk}
use Rattle.journal_text.specs.declared.line.Line.TheVariants as lines
use Rattle.journal_text.proofs.JournalLemmas.{entries_of_append}
use Rattle.live_state.specs.Lives.{LiveAfter}
use Rattle.journal_laws.specs.Peers.{KeepsPeers}
use Rattle.journal_laws.proofs.ShownRows.{flushed_join, flushed_none}
use Rattle.router_moments.specs.Blocks.{Acts}
use Rattle.router_moments.specs.Refreshes.{ServesOn, ServesNow}
use Rattle.router_moments.proofs.HeardSteps.{AreQuiet, heard_quiet, heard_join}

-- what is said first, and then
module _ (P Q R : List Line → Type 0) (both : (xs ys : List Line) → P xs → Q ys → R (xs ++ ys)) where
  pub gives_join : (a b c : Journaled) → Gives P a b → Gives Q b c → Gives R a c
  gives_join a b c p q = (p.0 ++ q.0, q.1 ∙ ap (λ (j : Journaled). flushed (with_lines j q.0)) p.1 ∙ flushed_join a p.0 q.0, both p.0 q.0 p.2 q.2)

  pub pushes_join : (a b c : Journaled) → Pushes P a b → Pushes Q b c → Pushes R a c
  pushes_join a b c p q = (p.0 ++ q.0, q.1 ∙ ap (λ (j : Journaled). with_lines j q.0) p.1 ∙ with_lines_append a p.0 q.0, both p.0 q.0 p.2 q.2)

  pub gives_push : (a b c d : Journaled) → Gives P a b → Pushes Q b c → d ≡ flushed c → Gives R a d
  gives_push a b c d p q is = (p.0 ++ q.0, is ∙ ap flushed q.1 ∙ ap (λ (j : Journaled). flushed (with_lines j q.0)) p.1 ∙ flushed_join a p.0 q.0, both p.0 q.0 p.2 q.2)

  pub push_gives : (a b c : Journaled) → Pushes P a b → Gives Q b c → Gives R a c
  push_gives a b c p q = (p.0 ++ q.0, q.1 ∙ ap (λ (j : Journaled). flushed (with_lines j q.0)) p.1 ∙ ap flushed (with_lines_append a p.0 q.0), both p.0 q.0 p.2 q.2)

pub gives_none : (P : List Line → Type 0) (a b : Journaled) → P [] → b ≡ flushed a → Gives P a b
gives_none P a b p is = ([], is ∙ flushed_none a, p)

pub gives_pushed : (P Q : List Line → Type 0) → ((xs : List Line) → P xs → Q xs) → (a b c : Journaled) → Pushes P a b → c ≡ flushed b → Gives Q a c
gives_pushed P Q to a b c p is = (p.0, is ∙ ap flushed p.1, to p.0 p.2)

pub gives_so : (P Q : List Line → Type 0) → ((xs : List Line) → P xs → Q xs) → (a b : Journaled) → Gives P a b → Gives Q a b
gives_so P Q to a b p = (p.0, p.1, to p.0 p.2)

-- ---- what is kept
-- by what a step comes to
pub keeps_as : (live : LiveState) (m now m' : Moment) (these said : List Line) → m' ≡ now → said ≡ these → Keeps live m now these → Keeps live m m' said
keeps_as live m now m' these said after lines keeps = subst (λ (n : Moment). Keeps live m n said) (sym after) (subst (λ (l : List Line). Keeps live m now l) (sym lines) keeps)

-- lines without entries
pub keeps_said : (m : Moment) (said : List Line) → Stands m → AreQuiet said → Keeps (live_state m) m m said
keeps_said m said stands quiet = record {
  leads = subst (λ (es : List (Entry Value)). Leads (router_links m) es (router_links m)) (sym quiet.0) (leads_nowhere (router_links m) (router_links m) refl);
  live = refl;
  stands = stands;
  heard = heard_quiet m m said quiet.1 refl;
}

pub keeps_none : (m : Moment) → Stands m → Keeps (live_state m) m m []
keeps_none m stands = keeps_said m [] stands (refl, tt)

module _ (a b c : Moment) (xs ys : List Line) where
  pub keeps_join : (l l' : LiveState) → l.declared ≡ a.declared → Keeps l a b xs → Keeps l' b c ys → Keeps l' a c (xs ++ ys)
  keeps_join l l' same p q = record {
    leads = subst (λ (es : List (Entry Value)). Leads (router_links a) es (router_links c)) (sym (entries_of_append xs ys))
        (leads_append (router_links a) (router_links b) (router_links c) (entries_of xs) (entries_of ys) p.leads q.leads);
    live = q.live;
    stands = q.stands;
    heard = heard_join a b c xs ys (ap (λ (x : LiveState). x.declared) p.live ∙ same) p.heard q.heard;
  }

  -- work behind it
  pub keeps_on : (l : LiveState) → l.declared ≡ a.declared → Keeps l a b xs → Keeps (live_state b) b c ys → Keeps l a c (xs ++ ys)
  keeps_on l same p q = subst (λ (x : LiveState). Keeps x a c (xs ++ ys)) p.live (keeps_join l (live_state b) same p q)

  -- a change behind work
  pub keeps_then : (f : LiveState → LiveState) → Keeps (live_state a) a b xs → Keeps (f (live_state b)) b c ys → Keeps (f (live_state a)) a c (xs ++ ys)
  keeps_then f p q = subst (λ (x : LiveState). Keeps (f x) a c (xs ++ ys)) p.live (keeps_join (live_state a) (f (live_state b)) refl p q)

-- ---- events
pub acts_of : (m m' : Moment) (event : Event) (turns : ℕ) (said : List Line) → HasStepped m event turns m' said → ArePrinted m.declared said → KeepsPeers m.declared m'.declared → ServesOn m said m' → ServesNow m event m'
    → Acts m event turns m' said
acts_of m m' event turns said h printed peers serves asked = record {
  block = h.block;
  leads = h.keeps.leads;
  live = subst (LiveAfter (live_state m) event) (sym h.keeps.live) h.after;
  stands = h.keeps.stands;
  printed = printed;
  peers = peers;
  heard = h.keeps.heard;
  serves = serves;
  asked = asked;
}

-- an event that leaves the router as it is
pub steps_said : (m : Moment) (event : Event) (turns : ℕ) (said : List Line) → Stands m → IsBlock m event said turns m → LiveAfter (live_state m) event (live_state m) → AreQuiet said → HasStepped m event turns m said
steps_said m event turns said stands block after none = record { block = block; live = live_state m; after = after; keeps = keeps_said m said stands none }

pub steps_pushed : (m : Moment) (event : Event) (said : List Line) (before j now : Journaled) → Stands m → IsBlock m event said 0 m → LiveAfter (live_state m) event (live_state m) → AreQuiet said → j ≡ with_lines before said → now ≡ flushed j
    → Gives (HasStepped m event 0 m) before now
steps_pushed m event said before j now stands block after none pushed is = (said, is ∙ ap flushed pushed, steps_said m event 0 said stands block after none)

-- one that is ignored
pub ignores : {X : Type 0} (result : Result ℕ X) (m : Moment) (event : Event) (before now : Journaled) → Stands m → IsBlock m event (lines.Ignored ∷ []) 0 m → LiveAfter (live_state m) event (live_state m)
    → IfOk result (λ turns. (turns ≡ 0) × (now ≡ flushed (with_lines before (lines.Ignored ∷ [])))) → IfOk result (λ turns. Gives (HasStepped m event turns m) before now)
ignores result m event before now stands block after told =
    IfOk-weaker result (λ turns. (turns ≡ 0) × (now ≡ flushed (with_lines before (lines.Ignored ∷ [])))) (λ turns. Gives (HasStepped m event turns m) before now) (λ turns t. subst (λ (n : ℕ). Gives (HasStepped m event n m) before now) (sym t.0)
    (steps_pushed m event (lines.Ignored ∷ []) before (with_lines before (lines.Ignored ∷ [])) now stands block after (refl, (refl, tt)) refl t.1)) told
