-- The walk of what is heard: it joins, there is one, and most lines leave it.
use Rattle.std.proofs.Common.{◌≡◌, ℕ, not, Bool, true, false, List, [], ◌∷◌, ◌++◌, Option, Some, None, inl, inr, refl, sym, ap, subst, ◌∙◌}
use Rattle.bgp_attr.specs.declared.speaker.Neighbour.{Neighbour}
use Rattle.bgp_attr.specs.declared.speaker.Profile.{Profile}
use Rattle.bgp_wire.specs.declared.message.Update.{Update as Updated}
use Rattle.bgp_wire.specs.declared.message.Message.TheVariants.{Update}
use Rattle.bgp_wire.specs.Grammar.{Reads, EachHasOne}
use Rattle.journal_text.specs.Lines.{Line}
use Rattle.journal_text.specs.declared.line.Line.TheVariants.{Out, Journal}
use Rattle.journal_text.specs.Lines.{Entry}
use Rattle.journal_text.specs.declared.entry.Entry.TheVariants.{Begin, End}
use Rattle.journal_text.specs.declared.link.Link.TheVariants.{Adv}
use Rattle.journal_text.specs.Lines.{Value}
use Rattle.event_text.specs.Declarations.{Declaration}
use Rattle.journal_laws.specs.Peers.{neighbours, KeepsPeers}
use Rattle.live_state.specs.Messages.{changes_of}
use Rattle.live_state.specs.Lives.{with_routes, routes_after}
use Rattle.live_state.specs.Heard.{Views, HearsOctets, HearsLine, Hears}
use Rattle.exit_laws.specs.Views.{is_heard, AreUnheard, entry_lines}
use Rattle.exit_laws.specs.Laws.{HearingJoins, HearingIsOne, HearingStays, NothingIsHeard, ChangesAreUnheard}

-- ---- joining
pub hearing_joins : HearingJoins
hearing_joins profile peers a b c [] ys first rest = subst (λ (v : Views). Hears profile peers v ys c) first rest
hearing_joins profile peers a b c (x ∷ xs) ys first rest = (first.0, first.1, hearing_joins profile peers first.0 b c xs ys first.2 rest)

-- ---- lines by which nothing is heard
unheard_line : (profile : Profile) (peers : ℕ → Option Neighbour) (v : Views) (line : Line) → is_heard line ≡ false → HearsLine profile peers line v v
unheard_line profile peers v (Out j octets) e = absurd (let clash : true ≡ false = e in cc)
unheard_line profile peers v (Journal (Begin (Adv j s))) e = absurd (let clash : true ≡ false = e in cc)
unheard_line profile peers v (Journal (End (Adv j s))) e = absurd (let clash : true ≡ false = e in cc)
unheard_line profile peers v other e = refl

pub nothing_is_heard : NothingIsHeard
nothing_is_heard profile peers v [] all = refl
nothing_is_heard profile peers v (line ∷ lines) all = (v, unheard_line profile peers v line all.0, nothing_is_heard profile peers v lines all.1)

pub changes_are_unheard : ChangesAreUnheard
changes_are_unheard link p None None = tt
changes_are_unheard link p None (Some new) = (refl, tt)
changes_are_unheard link p (Some old) None = (refl, tt)
changes_are_unheard link p (Some old) (Some new) = (refl, tt)

-- those of both are those of the whole
pub unheard_joins : (xs ys : List (Entry Value)) → AreUnheard (entry_lines xs) → AreUnheard (entry_lines ys) → AreUnheard (entry_lines (xs ++ ys))
unheard_joins [] ys first later = later
unheard_joins (x ∷ xs) ys first later = (first.0, unheard_joins xs ys first.1 later)

-- ---- more peers
-- where some line is heard, the profile is the same
module _ (before now : Declaration) (keeps : KeepsPeers before now) where
  line_stays : (v v' : Views) (line : Line) → HearsLine before.profile (neighbours before) line v v' → HearsLine now.profile (neighbours now) line v v'
  line_stays v v' (Out j octets) heard =
      (heard.0, keeps.words j heard.0 heard.1, subst (λ (p : Profile). HearsOctets p heard.0 j octets v v') (sym (keeps.profile j heard.0 heard.1)) heard.2)
  line_stays v v' (Journal (Begin (Adv j s))) heard = heard
  line_stays v v' (Journal (End (Adv j s))) heard = heard
  line_stays v v' other heard = heard

  lines_stay : (v v' : Views) (lines : List Line) → Hears before.profile (neighbours before) v lines v' → Hears now.profile (neighbours now) v lines v'
  lines_stay v v' [] heard = heard
  lines_stay v v' (line ∷ lines) heard = (heard.0, line_stays v heard.0 line heard.1, lines_stay heard.0 v' lines heard.2)

pub hearing_stays : HearingStays
hearing_stays before now v v' lines keeps heard = lines_stay before now keeps v v' lines heard

-- ---- one answer
same_update : (u w : Updated) → Update u ≡ Update w → u ≡ w
same_update u w e = cc

one_update : EachHasOne → (profile : Profile) (external : Bool) (octets : List ℕ) (u w : Updated) → Reads profile external octets (Update u) → Reads profile external octets (Update w) → u ≡ w
one_update law profile external octets u w first second = elim (law profile external octets) as (λ _. u ≡ w) [
  | inl one ↦ same_update u w (sym (one.1.2 (Update u) first) ∙ one.1.2 (Update w) second)
  | inr fault ↦ absurd (fault.2 (Update u) first)
]

one_peer : (u w : Neighbour) (o : Option Neighbour) → o ≡ Some u → o ≡ Some w → u ≡ w
one_peer u w o first second = let same : Some u ≡ Some w = sym first ∙ second in cc

line_is_one : EachHasOne → (profile : Profile) (peers : ℕ → Option Neighbour) (line : Line) (v a b : Views) → HearsLine profile peers line v a → HearsLine profile peers line v b → a ≡ b
line_is_one law profile peers (Out j octets) v a b first second =
    let peer : second.0 ≡ first.0 = one_peer second.0 first.0 (peers j) second.1 first.1 in
    let again : HearsOctets profile first.0 j octets v b = subst (λ (w : Neighbour). HearsOctets profile w j octets v b) peer second.2 in
    let same : first.2.update ≡ again.update = one_update law profile (not first.0.internal) octets first.2.update again.update first.2.reads again.reads in
    first.2.after ∙ ap (λ (u : Updated). with_routes v j (routes_after (v j) (changes_of profile u))) same ∙ sym again.after
line_is_one law profile peers (Journal (Begin (Adv j s))) v a b first second = first ∙ sym second
line_is_one law profile peers (Journal (End (Adv j s))) v a b first second = first ∙ sym second
line_is_one law profile peers other v a b first second = first ∙ sym second

pub hearing_is_one : EachHasOne → HearingIsOne
hearing_is_one law profile peers v a b [] first second = first ∙ sym second
hearing_is_one law profile peers v a b (line ∷ lines) first second =
    let same : second.0 ≡ first.0 = line_is_one law profile peers line v second.0 first.0 second.1 first.1 in
    hearing_is_one law profile peers first.0 a b lines first.2 (subst (λ (w : Views). Hears profile peers w lines b) same second.2)
