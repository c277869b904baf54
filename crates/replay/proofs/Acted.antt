-- What an event of a file does to both networks, each by itself.
use Rattle.std.proofs.Common.{◌≡◌, ℕ, Bool, true, false, List, [], ◌++◌, Option, Some, None, refl, sym, ap, subst, ◌∙◌, arith}
use Rattle.journal_text.specs.Lines.{Line, Value}
use Rattle.journal_text.specs.Walk.{no_links}
use Rattle.bgp_attr.specs.declared.speaker.Profile.{Profile}
use Rattle.event_text.specs.Event.{Event}
use Rattle.event_text.specs.declared.event.Event.TheVariants.{Nothing, Idle}
use Rattle.event_text.specs.declared.event.FileEvent.{FileEvent}
use Rattle.event_text.specs.declared.event.FileEvent.TheVariants.{First, Local6, Second}
use Rattle.event_text.specs.FileEvents.{file_refusal}
use Rattle.journal_laws.specs.FamilyLines.{FamilyLine, lines_in}
use Rattle.journal_laws.proofs.FamilyTexts.{lines_of_own, lines_of_other, lines_in_append}
use Rattle.live_state.specs.Heard.{no_views}
use Rattle.exit_laws.specs.Views.{views_of}
use Rattle.router_moments.specs.Moments.{Moment, router_links, bound_of}
use Rattle.router_moments.specs.Stands.{Stands}
use Rattle.router_moments.specs.Blocks.{Acts, IsBlock, Idles}
use Rattle.router.specs.Ties.{in_second}
use Rattle.event_text.specs.FileEvents.{with_ipv6}
use Rattle.router.specs.Networks.{Networks, OfSecond, OfEach, second_moment, network_of}
use Rattle.router.specs.Told.{told, words6}
use Rattle.router.specs.Steps.{CountsIdle, is_idle, SecondActs, BothAct, SecondBegins, FileActs}
use Rattle.replay.specs.Output.{AllStand}
use Rattle.replay.proofs.FirstLinks.{none_at_start, no_view_at_start}
use Rattle.replay.proofs.Follows.{IsFollowed, Moves, follows_none, followed_then, acts_move}
use Rattle.replay.proofs.Shares.{IsShare, IsWithin, AreShares, share_as, counts_one, joined_shares}
use Rattle.replay.proofs.Spoken.{alone, spoken_moves}

-- ---- what holds of a network of a family, where it is there
pub of_network : (P : Bool → Moment → Type 0) (v6 : Bool) (m : Networks) (at : Moment) → OfEach P m → network_of v6 m ≡ Some at → P v6 at
of_network P false m at each is = let same : m.first ≡ at = cc in subst (P false) same each.0
of_network P true m at each is = by m.second each.1 is
  where
    by : (o : Option Moment) → OfSecond (P true) o → o ≡ Some at → P true at
    by None holds is = absurd (let clash : ◌≡◌ {A = Option Moment} None (Some at) = is in cc)
    by (Some other) holds is = let same : other ≡ at = cc in subst (P true) same holds

-- ---- the second network, which may begin
-- nothing was said of it
pub record Begins (start : Moment) : Type 0 where
  pub links : no_links {V = Value} ≡ router_links start
  pub views : views_of start.exits ≡ no_views

abbrev pub SecondMoves : Option Moment → List Line → Option Moment → Type 0
SecondMoves None own None = own ≡ []
SecondMoves None own (Some m') = (start : Moment) × Begins start × Moves start own m'
SecondMoves (Some m) own None = ⊥
SecondMoves (Some m) own (Some m') = Moves m own m'

abbrev pub SecondFollowed : Option Moment → List Line → Option Moment → Type 0
SecondFollowed None own None = own ≡ []
SecondFollowed None own (Some m') = (start : Moment) × IsFollowed start own m'
SecondFollowed (Some m) own None = ⊥
SecondFollowed (Some m) own (Some m') = IsFollowed m own m'

second_followed : (o o' : Option Moment) (own : List Line) → SecondMoves o own o' → SecondFollowed o own o'
second_followed None None own moves = moves
second_followed None (Some m') own moves = (moves.0, moves.2.followed)
second_followed (Some m) None own moves = absurd moves
second_followed (Some m) (Some m') own moves = moves.followed

second_none : (o : Option Moment) → OfSecond Stands o → SecondFollowed o [] o
second_none None stands = refl
second_none (Some m) stands = follows_none m stands

second_then : (a b c : Option Moment) (xs ys : List Line) → SecondFollowed a xs b → SecondFollowed b ys c → SecondFollowed a (xs ++ ys) c
second_then None None None xs ys f g = λ i. f i ++ g i
second_then None None (Some c) xs ys f g = (g.0, subst (λ (ls : List Line). IsFollowed g.0 (ls ++ ys) c) (sym f) g.1)
second_then None (Some b) None xs ys f g = absurd g
second_then None (Some b) (Some c) xs ys f g = (f.0, followed_then f.0 b c xs ys f.1 g)
second_then (Some a) None None xs ys f g = absurd f
second_then (Some a) None (Some c) xs ys f g = absurd f
second_then (Some a) (Some b) None xs ys f g = absurd g
second_then (Some a) (Some b) (Some c) xs ys f g = followed_then a b c xs ys f g

second_stands : (o o' : Option Moment) (own : List Line) → SecondFollowed o own o' → OfSecond Stands o'
second_stands o None own f = tt
second_stands None (Some m') own f = f.1.stands
second_stands (Some m) (Some m') own f = f.stands

-- ---- both networks
pub record NetworksMove (m : Networks) (said : List FamilyLine) (m' : Networks) : Type 0 where
  pub first : Moves m.first (lines_in false said) m'.first
  pub second : SecondMoves m.second (lines_in true said) m'.second

pub record NetworksFollow (m : Networks) (said : List FamilyLine) (m' : Networks) : Type 0 where
  pub first : IsFollowed m.first (lines_in false said) m'.first
  pub second : SecondFollowed m.second (lines_in true said) m'.second

pub moves_follow : (m m' : Networks) (said : List FamilyLine) → NetworksMove m said m' → NetworksFollow m said m'
moves_follow m m' said moves = record { first = moves.first.followed; second = second_followed m.second m'.second (lines_in true said) moves.second }

pub networks_none : (m : Networks) → AllStand m → NetworksFollow m [] m
networks_none m stands = record { first = follows_none m.first stands.0; second = second_none m.second stands.1 }

pub networks_then : (a b c : Networks) (xs ys : List FamilyLine) → NetworksFollow a xs b → NetworksFollow b ys c → NetworksFollow a (xs ++ ys) c
networks_then a b c xs ys f g = record {
  first = subst (λ own. IsFollowed a.first own c.first) (sym (lines_in_append false xs ys)) (followed_then a.first b.first c.first (lines_in false xs) (lines_in false ys) f.first g.first);
  second = subst (λ own. SecondFollowed a.second own c.second) (sym (lines_in_append true xs ys)) (second_then a.second b.second c.second (lines_in true xs) (lines_in true ys) f.second g.second);
}

pub networks_stand : (m m' : Networks) (said : List FamilyLine) → NetworksFollow m said m' → AllStand m'
networks_stand m m' said f = (f.first.stands, second_stands m.second m'.second (lines_in true said) f.second)

-- the network of a family, where it was there before
pub of_family_follows : (v6 : Bool) (m m' : Networks) (said : List FamilyLine) (before after : Moment) → NetworksFollow m said m' → network_of v6 m ≡ Some before → network_of v6 m' ≡ Some after → IsFollowed before (lines_in v6 said) after
of_family_follows false m m' said before after f was is =
    let one : m.first ≡ before = cc in
    let other : m'.first ≡ after = cc in
    subst (λ (x : Moment). IsFollowed x (lines_in false said) after) one (subst (IsFollowed m.first (lines_in false said)) other f.first)
of_family_follows true m m' said before after f was is =
    let one = subst (λ (o : Option Moment). SecondFollowed o (lines_in true said) m'.second) was f.second in
    subst (SecondFollowed (Some before) (lines_in true said)) is one

-- ---- an idle of both
pub idle_is : (event : Event) → is_idle event ≡ true → event ≡ Idle
idle_is Idle e = refl
idle_is other e = absurd (cc)

acts_within : (m m' : Moment) (event : Event) (turns : ℕ) (own : List Line) → Acts m event turns m' own → event ≡ Idle → IsWithin own
acts_within m m' event turns own acts is = λ bound t inner counts.
    let block : Idles m own turns m' = subst (λ (e : Event). IsBlock m e own turns m') is acts.block in
    let own_counts : CountsIdle own (bound_of m) block.inner turns = subst (λ (ls : List Line). CountsIdle ls (bound_of m) block.inner turns) (sym block.lines) refl in
    let same = counts_one own bound (bound_of m) t turns inner block.inner counts own_counts in
    omega (arith, same.0, same.2, block.within)

none_within : IsWithin []
none_within = λ bound t inner counts. omega (arith, counts.0, counts.2)

second_within : (o o' : Option Moment) (event : Event) (turns : ℕ) (own : List Line) → SecondActs o event turns o' own → event ≡ Idle → IsWithin own
second_within None o' event turns own acts is = subst IsWithin (sym acts.2) none_within
second_within (Some m) None event turns own acts is = absurd acts
second_within (Some m) (Some m') event turns own acts is = acts_within m m' event turns own acts is

-- ---- an event
second_acts : (o o' : Option Moment) (event : Event) (turns : ℕ) (own share : List Line) → SecondActs o event turns o' own → IsShare own share → (own ≡ [] → share ≡ []) → SecondMoves o share o'
second_acts None o' event turns own share acts s none = subst (SecondMoves None share) (sym acts.1) (none acts.2)
second_acts (Some m) None event turns own share acts s none = absurd acts
second_acts (Some m) (Some m') event turns own share acts s none = acts_move m m' event turns own share acts s

pub both_move : (m m' : Networks) (event event6 : Event) (turns : ℕ) (said : List FamilyLine) → (event ≡ Idle → event6 ≡ Idle) → BothAct m event event6 turns m' said → NetworksMove m said m'
both_move m m' event event6 turns said together b =
    let shares : AreShares b.inner b.inner6 said =
    joined_shares (is_idle event) b.inner b.inner6 said
    (λ is. (acts_within m.first m'.first event b.taken b.inner b.first (idle_is event is), second_within m.second m'.second event6 b.taken6 b.inner6 b.second (together (idle_is event is)))) b.joined in
    record {
      first = acts_move m.first m'.first event b.taken b.inner (lines_in false said) b.first shares.first;
      second = second_acts m.second m'.second event6 b.taken6 b.inner6 (lines_in true said) b.second shares.second shares.none;
    }

-- the second network begins
begins_by : (profile : Profile) (event : Event) (o' : Option Moment) (own share : List Line) → SecondActs (Some (second_moment profile)) event 0 o' own → share ≡ own → SecondMoves None share o'
begins_by profile event None own share acts same = absurd acts
begins_by profile event (Some m') own share acts same = (
  second_moment profile,
  record { links = none_at_start true (in_second (with_ipv6 profile)); views = no_view_at_start true (in_second (with_ipv6 profile)) },
  acts_move (second_moment profile) m' event 0 own share acts (share_as own share same),
)

begin_moves : (m m' : Networks) (addr : ℕ) (said : List FamilyLine) → Stands m.first → file_refusal m.first.declared (Local6 addr) ≡ None → SecondBegins m addr m' said → NetworksMove m said m'
begin_moves m m' addr said stands admitted b =
    let none : lines_in false said ≡ [] = ap (lines_in false) b.lines ∙ lines_of_other true b.inner6 in
    let own : lines_in true said ≡ b.inner6 = ap (lines_in true) b.lines ∙ lines_of_own true b.inner6 in
    record {
      first = subst (λ (ls : List Line). Moves m.first ls m'.first) (sym none) (subst (Moves m.first []) (sym b.first) (spoken_moves m.first stands (alone m.first.declared addr admitted)));
      second = subst (λ (o : Option Moment). SecondMoves o (lines_in true said) m'.second) (sym b.none)
          (begins_by m.first.declared.profile (words6 addr m.first.declared.speaker) m'.second b.inner6 (lines_in true said) b.begins own);
    }

pub file_moves : (m m' : Networks) (event : FileEvent) (turns : ℕ) (said : List FamilyLine) → AllStand m → file_refusal m.first.declared event ≡ None → FileActs m event turns m' said → NetworksMove m said m'
file_moves m m' (First event) turns said stands admitted acts = both_move m m' event (told m.first.declared event) turns said (λ is. ap (told m.first.declared) is) acts
file_moves m m' (Local6 addr) turns said stands admitted acts = begin_moves m m' addr said stands.0 admitted acts.1
file_moves m m' (Second event) turns said stands admitted acts = both_move m m' Nothing event turns said (λ is. absurd (let clash : Nothing ≡ Idle = is in cc)) acts
