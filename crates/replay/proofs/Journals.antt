-- The journal of each family leads on, one line after the other.
use Rattle.std.proofs.Common.{◌≡◌, Bool, true, false, List, [], ◌++◌, Option, Some, None, refl, sym, ap, subst, ◌∙◌}
use Rattle.journal_text.specs.Lines.{Entry, Value}
use Rattle.journal_text.specs.Texts.{entries_of}
use Rattle.journal_text.specs.Walk.{Links, Leads, LeadsOn, no_links}
use Rattle.journal_laws.specs.FamilyLines.{FamilyLine, lines_in, family_entries}
use Rattle.journal_laws.proofs.FamilyTexts.{lines_in_append, entries_append}
use Rattle.router_moments.specs.Moments.{Moment, router_links}
use Rattle.router.specs.Networks.{Networks, OfSecond, first_networks}
use Rattle.replay.specs.Output.{JournalsLead}
use Rattle.replay.proofs.Acted.{SecondMoves, NetworksMove}
use Rattle.replay.proofs.FirstLinks.{none_at_first}
use Rattle.replay.proofs.Follows.{Moves}

pub nothing_said : JournalsLead [] first_networks
nothing_said = record { each = (record { lawful = tt; ends = none_at_first }, tt); none = λ none. refl }

-- the entries of a family lead from nothing to the links of its network
abbrev LeadsTo : Bool → List FamilyLine → Moment → Type 0
LeadsTo v6 out m = Leads no_links (family_entries v6 out) (router_links m)

module _ (join : LeadsOn Value) (earlier said : List FamilyLine) where
  leads_to : (v6 : Bool) (old new : Moment) → Moves old (lines_in v6 said) new → LeadsTo v6 earlier old → LeadsTo v6 (earlier ++ said) new
  leads_to v6 old new moves before =
      subst (λ (es : List (Entry Value)). Leads no_links es (router_links new)) (sym (entries_append v6 earlier said))
      (join no_links (router_links old) (router_links new) (family_entries v6 earlier) (family_entries v6 said) before moves.leads)

  -- nothing was said of it before
  begins_to : (start new : Moment) → lines_in true earlier ≡ [] → no_links {V = Value} ≡ router_links start → Moves start (lines_in true said) new → LeadsTo true (earlier ++ said) new
  begins_to start new none links moves =
      let alone : family_entries true (earlier ++ said) ≡ family_entries true said = entries_append true earlier said ∙ ap (λ ls. entries_of ls ++ family_entries true said) none in
      subst (λ (es : List (Entry Value)). Leads no_links es (router_links new)) (sym alone)
      (subst (λ (l : Links Value). Leads l (family_entries true said) (router_links new)) (sym links) moves.leads)

  second_leads : (o o' : Option Moment) → SecondMoves o (lines_in true said) o' → (o ≡ None → lines_in true earlier ≡ []) → OfSecond (LeadsTo true earlier) o → OfSecond (LeadsTo true (earlier ++ said)) o'
  second_leads o None moves none before = tt
  second_leads None (Some m') moves none before = begins_to moves.0 m' (none refl) moves.1.links moves.2
  second_leads (Some m) (Some m') moves none before = leads_to true m m' moves before

  second_silent : (o o' : Option Moment) → SecondMoves o (lines_in true said) o' → (o ≡ None → lines_in true earlier ≡ []) → o' ≡ None → lines_in true (earlier ++ said) ≡ []
  second_silent None None moves none is = lines_in_append true earlier said ∙ (λ i. none refl i ++ moves i)
  second_silent None (Some m') moves none is = absurd (let clash : ◌≡◌ {A = Option Moment} (Some m') None = is in cc)
  second_silent (Some m) None moves none is = absurd moves
  second_silent (Some m) (Some m') moves none is = absurd (let clash : ◌≡◌ {A = Option Moment} (Some m') None = is in cc)

  pub journals_lead : (old new : Networks) → NetworksMove old said new → JournalsLead earlier old → JournalsLead (earlier ++ said) new
  journals_lead old new moves before = record {
    each = (leads_to false old.first new.first moves.first before.each.0, second_leads old.second new.second moves.second before.none before.each.1);
    none = second_silent old.second new.second moves.second before.none;
  }
