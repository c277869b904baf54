-- A whole chain, and its links beside those of others.
use Rattle.std.proofs.Common.{◌≡◌, ℕ, ◌<◌, ◌+◌, ◌==◌, true, false, cond, List, [], ◌∷◌, Option, Some, None, refl, sym, ap, subst, ◌∙◌, arith}
use Rattle.std.proofs.lemmas.Bool.{eq-eqb}
use Rattle.std.proofs.lemmas.Bool.Decides.{nat_tests}
use Rattle.std.specs.Option.{option_map}
use Rattle.std.specs.List.{AllByRecursion}
use Rattle.std.specs.FinMap as map
use Rattle.std.specs.FinMap.{FinMap}
use Rattle.addr4.specs.Prefixes.{AddressPrefix, prefix_cmp}
use Rattle.rib_route.specs.declared.Proto.{Proto}
use Rattle.link_change.specs.Changes.{Change}
use Rattle.link_change.specs.Turns.{Turn}
use Rattle.link_change.specs.declared.turn.Turn.TheVariants.{Nothing, Quiet, Sent}
use Rattle.link_change.proofs.RowLemmas.{same_function}
use Rattle.loss_chain.specs.Lost.{Lost}
use Rattle.journal_text.specs.declared.link.Link.{Link}
use Rattle.journal_text.specs.declared.link.Link.TheVariants as names
use Rattle.journal_text.specs.Lines.{Value}
use Rattle.journal_text.specs.Lines.{Entry}
use Rattle.journal_text.specs.Links.{rank_of, proto_number}
use Rattle.journal_text.proofs.LinkLemmas.{proto_by, proto_back}
use Rattle.journal_text.specs.Journals.{Journaled, Adds}
use Rattle.journal_text.specs.Walk.{Links, Leads}
use Rattle.journal_text.proofs.WalkLemmas.{with_link_apart}
use Rattle.loss_chain.specs.declared.owner.Owner.{Owner}
use Rattle.loss_chain.specs.declared.owner.Owner.TheVariants.{Peer, Origin}
use Rattle.loss_chain.specs.Owners.{lowest_link, lost_link, same_proto, is_owned}
use Rattle.journal_text.specs.Values.{valued}
use Rattle.loss_chain.specs.Tables.{Tables, rows_below, rows_above, lowest_rows, chain_links, beside_chain, AreRising, IsLossChain}
use Rattle.loss_chain.specs.Falls.{LeadsTables, FallsTables}
use Rattle.loss_chain.specs.Steps.{SweepsTables, IsTakenTables}
use Rattle.loss_chain.specs.Stages.{tables_of, live_of, deletions_of, rows_of, above_of}
use Rattle.loss_chain.specs.declared.stage.Stage.{Stage, Top, Deletion'}
use Rattle.loss_chain.specs.Parts.{links_over, IsRisingFrom, IsSound, LeadsOver, FallsOver, SweepsOver, IsTakenOver}
use Rattle.loss_chain.proofs.OwnerLemmas.{rank_lowest, owns_lowest, owns_lost}
use Rattle.loss_chain.proofs.PartLemmas.{own_link}

-- ---- the order of losses

module _ {R : Type 0} where
  pub rising_all : (low : ℕ) (ds : List (Lost R)) → AllByRecursion (λ later. low < later.number) ds → AreRising ds → IsRisingFrom (low + 1) ds
  rising_all low [] above rising = tt
  rising_all low (d ∷ ds) above rising = let first = above.0 in (omega (arith, first), rising_all d.number ds rising.0 rising.1)

  rising_chain : (ds : List (Lost R)) → AreRising ds → IsRisingFrom 0 ds
  rising_chain [] rising = tt
  rising_chain (d ∷ ds) rising = (omega arith, rising_all d.number ds rising.0 rising.1)

  later_all : (low number : ℕ) (ds : List (Lost R)) → number < low → IsRisingFrom low ds → AllByRecursion (λ later. number < later.number) ds
  later_all low number [] h rising = tt
  later_all low number (d ∷ ds) h rising = let step = rising.0 in (omega (arith, h, step), later_all (d.number + 1) number ds (omega (arith, h, step)) rising.1)

  are_rising : (low : ℕ) (ds : List (Lost R)) → IsRisingFrom low ds → AreRising ds
  are_rising low [] rising = tt
  are_rising low (d ∷ ds) rising = (later_all (d.number + 1) d.number ds (omega arith) rising.1, are_rising (d.number + 1) ds rising.1)

  pub sound_of_chain : (o : Owner) (t : Tables R) → IsLossChain t → IsSound (lowest_link o) t
  sound_of_chain o t chain = record { rising = subst (λ (r : ℕ). IsRisingFrom r t.deletions) (sym (rank_lowest o)) (rising_chain t.deletions chain.rising); apart = chain.apart }

  pub chain_of_sound : (out : Link) (t : Tables R) → IsSound out t → IsLossChain t
  chain_of_sound out t sound = record { apart = sound.apart; rising = are_rising (rank_of out) t.deletions sound.rising }

-- ---- names

-- the others, without the names of this owner
abbrev cleared : Owner → Links Value → Links Value
cleared o others link = cond (is_owned o link) None (others link)

cleared_lost : (o : Owner) (others : Links Value) (n : ℕ) → cleared o others (lost_link o n) ≡ None
cleared_lost o others n = ap (λ b. cond b None (others (lost_link o n))) (owns_lost o n)

lowest_apart : (o : Owner) (n : ℕ) → (lowest_link o ≡ lost_link o n) → ⊥
lowest_apart (Peer k) n e = cc
lowest_apart (Origin p) n e = cc

same_number : (o : Owner) (m n : ℕ) → lost_link o m ≡ lost_link o n → m ≡ n
same_number (Peer k) m n e = cc
same_number (Origin p) m n e = cc

same_proto-yes : (a b : Proto) → same_proto a b ≡ true → a ≡ b
same_proto-yes a b e = let same : proto_number a ≡ proto_number b = grind (arith, nat_tests) in sym (proto_back a) ∙ ap proto_by same ∙ proto_back b

-- what holds of the lowest link and of that of each loss holds of each link of the owner
each_owned : (P : Link → Type 0) (o : Owner) → P (lowest_link o) → ((n : ℕ) → P (lost_link o n)) → (link : Link) → is_owned o link ≡ true → P link
each_owned P (Peer k) low lost link = elim link as (λ l. is_owned (Peer k) l ≡ true → P l) [
  | names.In j ↦ λ e. let same : j ≡ k = grind (arith, nat_tests) in subst (λ n. P (names.In n)) (sym same) low
  | names.Peer j s ↦ λ e. let same : j ≡ k = grind (arith, nat_tests) in subst (λ n. P (names.Peer n s)) (sym same) (lost s)
  | _ ↦ λ e. absurd (let clash : false ≡ true = e in cc)
]
each_owned P (Origin q) low lost link = elim link as (λ l. is_owned (Origin q) l ≡ true → P l) [
  | names.Org p ↦ λ e. subst (λ x. P (names.Org x)) (sym (same_proto-yes p q e)) low
  | names.Lost p n ↦ λ e. subst (λ x. P (names.Lost x n)) (sym (same_proto-yes p q e)) (lost n)
  | _ ↦ λ e. absurd (let clash : false ≡ true = e in cc)
]

-- ---- links beside those of others

module _ {R : Type 0} (value : R → Value) where
  lowest_is : (o : Owner) (t : Tables R) → chain_links value o t (lowest_link o) ≡ Some (valued value (lowest_rows t))
  lowest_is (Peer k) t = ap (λ b. cond b (Some (valued value (lowest_rows t))) None) (owns_lowest (Peer k))
  lowest_is (Origin p) t = ap (λ b. cond b (Some (valued value (lowest_rows t))) None) (owns_lowest (Origin p))

  lost_is : (o : Owner) (t : Tables R) (n : ℕ) → chain_links value o t (lost_link o n) ≡ option_map (valued value) (rows_above t.live n t.deletions)
  lost_is (Peer k) t n = ap (λ b. cond b (option_map (valued value) (rows_above t.live n t.deletions)) None) (owns_lost (Peer k) n)
  lost_is (Origin p) t n = ap (λ b. cond b (option_map (valued value) (rows_above t.live n t.deletions)) None) (owns_lost (Origin p) n)

  not_named : (o : Owner) (others : Links Value) (out : Link) (live : FinMap prefix_cmp R) (ds : List (Lost R)) (link : Link) → is_owned o out ≡ true → is_owned o link ≡ false → links_over value o others out live ds link ≡ others link
  not_named o others out live [] link named other =
      with_link_apart others out link (Some (valued value (map.get live))) (λ e. let clash : true ≡ false = sym named ∙ ap (is_owned o) e ∙ other in cc)
  not_named o others out live (d ∷ ds) link named other =
      with_link_apart (links_over value o others (lost_link o d.number) live ds) out link (Some (valued value (rows_below live (d ∷ ds)))) (λ e. let clash : true ≡ false = sym named ∙ ap (is_owned o) e ∙ other in cc)
      ∙ not_named o others (lost_link o d.number) live ds link (owns_lost o d.number) other

  -- the link of a loss, above those links that aren't it
  at_loss : (o : Owner) (others : Links Value) (n : ℕ) (out : Link) (live : FinMap prefix_cmp R) (ds : List (Lost R)) → (out ≡ lost_link o n → ⊥) → others (lost_link o n) ≡ None
      → links_over value o others out live ds (lost_link o n) ≡ option_map (valued value) (rows_above live n ds)
  at_loss o others n out live [] apart none = with_link_apart others out (lost_link o n) (Some (valued value (map.get live))) apart ∙ none
  at_loss o others n out live (d ∷ ds) apart none =
      with_link_apart (links_over value o others (lost_link o d.number) live ds) out (lost_link o n) (Some (valued value (rows_below live (d ∷ ds)))) apart
      ∙ elim (d.number == n) as (λ b. (d.number == n) ≡ b → links_over value o others (lost_link o d.number) live ds (lost_link o n) ≡ option_map (valued value) (cond b (Some (rows_below live ds)) (rows_above live n ds))) [
        | true ↦ λ e. let same : d.number ≡ n = grind (arith, nat_tests) in ap (links_over value o others (lost_link o d.number) live ds) (ap (lost_link o) (sym same)) ∙ own_link value o others (lost_link o d.number) live ds
        | false ↦ λ e. at_loss o others n (lost_link o d.number) live ds (λ f. let clash : true ≡ false = sym (eq-eqb d.number n (same_number o d.number n f)) ∙ e in cc) none
      ] refl

  -- ---- the stage above that of a loss

  above_rows : {F : Type 0} (number : ℕ) (stage : Stage R F) → option_map (λ s. valued value (rows_of s)) (above_of number stage) ≡ option_map (valued value) (rows_above (live_of stage) number (deletions_of stage))
  above_rows number (Top live) = refl
  above_rows number (Deletion' d at upper) =
      elim (d.number == number) as (λ b. option_map (λ s. valued value (rows_of s)) (cond b (Some upper) (above_of number upper)) ≡ option_map (valued value) (cond b (Some (rows_of upper)) (rows_above (live_of upper) number (deletions_of upper)))) [
        | true ↦ refl
        | false ↦ above_rows number upper
      ]

  pub out_of_session : {F : Type 0} (number k session : ℕ) (stage : Stage R F) → k ≡ number → option_map (λ s. valued value (rows_of s)) (above_of session stage) ≡ chain_links value (Peer number) (tables_of stage) (names.Peer k session)
  out_of_session number k session stage same =
      above_rows session stage ∙ ap (λ b. cond b (option_map (valued value) (rows_above (live_of stage) session (deletions_of stage))) None) (sym (eq-eqb k number same))

  pub out_of_loss : {F : Type 0} (proto p : Proto) (loss : ℕ) (stage : Stage R F) → same_proto p proto ≡ true → option_map (λ s. valued value (rows_of s)) (above_of loss stage) ≡ chain_links value (Origin proto) (tables_of stage) (names.Lost p loss)
  out_of_loss proto p loss stage same =
      above_rows loss stage ∙ ap (λ b. cond b (option_map (valued value) (rows_above (live_of stage) loss (deletions_of stage))) None) (sym same)

  -- ---- what is named

  on_named : (o : Owner) (others : Links Value) (t : Tables R) (link : Link) → is_owned o link ≡ true → links_over value o (cleared o others) (lowest_link o) t.live t.deletions link ≡ chain_links value o t link
  on_named o others t = each_owned (λ link. links_over value o (cleared o others) (lowest_link o) t.live t.deletions link ≡ chain_links value o t link) o
      (own_link value o (cleared o others) (lowest_link o) t.live t.deletions ∙ sym (lowest_is o t))
      (λ n. at_loss o (cleared o others) n (lowest_link o) t.live t.deletions (lowest_apart o n) (cleared_lost o others n) ∙ sym (lost_is o t n))

  beside_is : (o : Owner) (others : Links Value) (t : Tables R) → links_over value o (cleared o others) (lowest_link o) t.live t.deletions ≡ beside_chain value o others t
  beside_is o others t = same_function _ _ (λ link.
      elim (is_owned o link) as (λ b. is_owned o link ≡ b → links_over value o (cleared o others) (lowest_link o) t.live t.deletions link ≡ cond b (chain_links value o t link) (others link)) [
        | true ↦ λ e. on_named o others t link e
        | false ↦ λ e. not_named o (cleared o others) (lowest_link o) t.live t.deletions link (owns_lowest o) e ∙ ap (λ b. cond b None (others link)) e
      ] refl)

  pub leads_chain : (o : Owner) (old new : Tables R) (entries : List (Entry Value)) → LeadsOver value o (lowest_link o) old entries new → LeadsTables value o old entries new
  leads_chain o old new entries leads others =
      let lead = leads (cleared o others) (λ number _. cleared_lost o others number) in
      let P : Links Value → Type 0 = λ l. Leads l entries (links_over value o (cleared o others) (lowest_link o) new.live new.deletions) in
      let Q : Links Value → Type 0 = λ l. Leads (beside_chain value o others old) entries l in
      subst Q (beside_is o others new) (subst P (beside_is o others old) lead)

  pub falls_chain : (o : Owner) (old new : Tables R) (p : AddressPrefix) (way : List Link) (sent : Option (Change R)) (before now : Journaled)
      → Adds (FallsOver value o (lowest_link o) old new p way sent) before now → Adds (FallsTables value o old new p way sent) before now
  falls_chain o old new p way sent before now (entries, now_is, fall) = (entries, now_is, record { leads = leads_chain o old new entries fall.leads; down = fall.down })

  -- ---- turns

  sweeps_chain : (o : Owner) (old new : Tables R) (number : ℕ) (sent : Option (Change R)) (before now : Journaled) → Adds (SweepsOver value o (lowest_link o) old new number sent) before now → Adds (SweepsTables value o old new number sent) before now
  sweeps_chain o old new number sent before now (entries, now_is, s) = (
    entries,
    now_is,
    record {
      prefix = s.prefix;
      row = s.row;
      table = s.table;
      stands = s.stands;
      least = s.least;
      after = s.after;
      fall = record { leads = leads_chain o old new entries s.fall.leads; down = s.fall.down };
      rows = s.rows;
    },
  )

  pub taken_chain : (o : Owner) (old new : Tables R) (number : ℕ) (before now : Journaled) (turn : Turn R) → IsTakenOver value o (lowest_link o) old new number before now turn → IsTakenTables value o old new number before now turn
  taken_chain o old new number before now Nothing taken = taken
  taken_chain o old new number before now Quiet taken = sweeps_chain o old new number None before now taken
  taken_chain o old new number before now (Sent change) taken = sweeps_chain o old new number (Some change) before now taken
