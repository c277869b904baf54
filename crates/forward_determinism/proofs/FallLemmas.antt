-- What comes of a change of the best routes is one: what it causes, the exit after it, the register, and the lines.
use Rattle.std.proofs.Common.{◌≡◌, ◌⊎◌, ℕ, Option, Some, None, refl, sym, ap, subst, ◌∙◌, inl, inr}
use Rattle.std.specs.Option.{option_or}
use Rattle.std.specs.FinMap.{same_map}
use Rattle.addr4.proofs.PrefixOrder.{prefixes_total, exact_prefixes}
use Rattle.bgp_attr.specs.Routes.{Route}
use Rattle.link_change.specs.Rows.{Rows}
use Rattle.link_change.specs.Changes.{IsSent}
use Rattle.rib_route.specs.Rows.{Interior}
use Rattle.register_interest.specs.Registers.{Registry}
use Rattle.nexthop_known.specs.Counts.{AreCounted}
use Rattle.nexthop_resolver.specs.Ways.{Way}
use Rattle.nexthop_resolver.specs.Kept.{external_hop, way_of}
use Rattle.nexthop_resolver.specs.Resolving.{named_by}
use Rattle.nexthop_resolver.specs.Registered.{Agrees, told_of}
use Rattle.nexthop_resolver.specs.Takes.{Keeps}
use Rattle.rib_split.specs.declared.splitter.Splitter.{Splitter}
use Rattle.rib_split.specs.declared.split.BgpLink.TheVariants.{Ebgp, Ibgp}
use Rattle.rib_split.specs.Splits.{Split}
use Rattle.rib_split.specs.Splitting.{Parted, split_rows}
use Rattle.rib_split.specs.Tables.{kept_rows}
use Rattle.rib_split.specs.Laws.{merged_links}
use Rattle.rib_exit.specs.RibExits.{RibExit}
use Rattle.rib_exit.specs.Exits.{ext_rows, fib_over, IsExit, AgreesWith, StandsOver}
use Rattle.rib_exit.specs.Passing.{Caused, fall_entries}
use Rattle.rib_exit.specs.Steps.{KeepsAgreed, CausesOn}
use Rattle.hop_determinism.specs.Laws.{ClientsRegisterIsOne, KeptIsOne}
use Rattle.stage_determinism.proofs.OneLemmas.{sent_is_one}
use Rattle.forward_determinism.specs.Laws.{FallIsOne, ExternalIsOne}
use Rattle.forward_determinism.proofs.SplitLemmas.{split_is_one, causes_are_one}

-- ---- by parts
-- the tables of the splitter are told by their rows
one_splitter : (s t : Splitter) → kept_rows s ≡ kept_rows t → s ≡ t
one_splitter s t same =
    let ebgp : s.ebgp ≡ t.ebgp = same_map prefixes_total exact_prefixes s.ebgp t.ebgp (λ q. ap (λ (rows : Parted). rows Ebgp q) same) in
    let ibgp : s.ibgp ≡ t.ibgp = same_map prefixes_total exact_prefixes s.ibgp t.ibgp (λ q. ap (λ (rows : Parted). rows Ibgp q) same) in
    λ i. record { ebgp = ebgp i; ibgp = ibgp i }

pub one_exit : (e f : RibExit) → e.splitter ≡ f.splitter → e.forwarding ≡ f.forwarding → e ≡ f
one_exit e f rows hops = λ i. record { splitter = rows i; forwarding = hops i }

one_caused : (a b : Caused) → a.ext ≡ b.ext → a.fib ≡ b.fib → a ≡ b
one_caused a b ext fib = λ i. record { ext = ext i; fib = fib i }

-- of two changes of which one is none, each is told by both together
alone : {X : Type 0} (a : Option X) → a ≡ option_or a None
alone None = refl
alone (Some x) = refl

each_of_both : {X : Type 0} (a b a' b' : Option X) → option_or a b ≡ option_or a' b' → ((a ≡ None) × (a' ≡ None)) ⊎ ((b ≡ None) × (b' ≡ None)) → (a ≡ a') × (b ≡ b')
each_of_both {X} a b a' b' same (inl none) =
    (none.0 ∙ sym none.1, ap (λ (x : Option X). option_or x b) (sym none.0) ∙ same ∙ ap (λ (x : Option X). option_or x b') none.1)
each_of_both a b a' b' same (inr none) = (alone a ∙ ap (option_or a) (sym none.0) ∙ same ∙ ap (option_or a') none.1 ∙ sym (alone a'), none.0 ∙ sym none.1)

-- ---- the exit after a change
module _ (kept_is_one : KeptIsOne Way) where
  -- the best routes make the tables and the counts, and these tell what is known
  one_after : (was : Registry Interior) (e f f' : RibExit) (now : Rows Route) → IsExit f → IsExit f' → StandsOver now f → StandsOver now f' → Keeps (told_of way_of was) e.forwarding f.forwarding
      → Keeps (told_of way_of was) e.forwarding f'.forwarding → f ≡ f'
  one_after was e f f' now sound sound' over over' keeps keeps' =
      let rows = one_splitter f.splitter f'.splitter (over.links ∙ sym over'.links) in
      let counted : AreCounted (named_by external_hop (ext_rows f')) f.forwarding.counts =
      subst (λ (s : Splitter). AreCounted (named_by external_hop (merged_links (kept_rows s))) f.forwarding.counts) rows over.counted in
      one_exit f f' rows
      (kept_is_one way_of was (named_by external_hop (ext_rows f')) e.forwarding f.forwarding f'.forwarding keeps counted sound.named keeps' over'.counted sound'.named)

  pub fall_is_one : FallIsOne
  fall_is_one p int split split' first second first' second' was e f f' entries entries' best now sound sound' falls also =
      let same = split_is_one (split_rows best) (split_rows now) p p split split' falls.splits also.splits in
      let causes = causes_are_one p split' first.ext second.ext first'.ext second'.ext (split_rows best) (split_rows now)
      (subst (λ (s : Split). CausesOn p s first.ext second.ext (split_rows best) (split_rows now)) same falls.causes) also.causes in
      let exit = one_after was e f f' now sound sound' falls.stands also.stands falls.keeps also.keeps in
      let sent = sent_is_one (fib_over e int) (fib_over f' int) p p (option_or first.fib second.fib) (option_or first'.fib second'.fib)
      (subst (λ (x : RibExit). IsSent (fib_over e int) (fib_over x int) p (option_or first.fib second.fib)) exit falls.fib) also.fib in
      let none : ((first.fib ≡ None) × (first'.fib ≡ None)) ⊎ ((second.fib ≡ None) × (second'.fib ≡ None)) =
      elim falls.once [
        | inl none ↦ inl (falls.first_by none, also.first_by (sym causes.0 ∙ none))
        | inr none ↦ inr (falls.second_by none, also.second_by (sym causes.1 ∙ none))
      ] in
      let fibs = each_of_both first.fib second.fib first'.fib second'.fib sent none in
      (same, one_caused first first' causes.0 fibs.0, one_caused second second' causes.1 fibs.1, exit)

-- ---- the register
-- it knows the exit as client 0
by_client : (r : Registry Interior) (f : RibExit) → IsExit f → AgreesWith f r → Agrees way_of 0 f.forwarding.known r
by_client r f sound agree = subst (λ (k : ℕ). Agrees way_of k f.forwarding.known r) sound.client agree

module _ (register_is_one : ClientsRegisterIsOne Way) where
  -- it has the interests of the exit, beside those that others had
  pub one_register : (was is is' : Registry Interior) (f f' : RibExit) → f ≡ f' → KeepsAgreed was is f → KeepsAgreed was is' f' → is ≡ is'
  one_register was is is' f f' same keeps keeps' =
      let also = subst (λ (x : RibExit). KeepsAgreed was is' x) (sym same) keeps' in
      register_is_one way_of 0 f.forwarding.known was is is' keeps.others keeps.stands (by_client is f keeps.sound keeps.agree) also.others also.stands
      (by_client is' f also.sound also.agree)

  pub external_is_one : KeptIsOne Way → ExternalIsOne
  external_is_one kept_is_one change int sent sent' was is is' e f f' entries entries' best now p over leads takes also =
      let falls = fall_is_one kept_is_one p int takes.split also.split takes.first takes.second also.first also.second was e f f' entries entries' best now
      takes.agreed.sound also.agreed.sound (takes.goes best now p over leads) (also.goes best now p over leads) in (
        takes.comes ∙ ap (λ (c : Caused). option_or c.fib takes.second.fib) falls.1 ∙ ap (λ (c : Caused). option_or also.first.fib c.fib) falls.2 ∙ sym also.comes,
        one_register was is is' f f' falls.3 takes.agreed also.agreed,
        falls.3,
        takes.lines ∙ ap (λ (s : Split). fall_entries s takes.first takes.second) falls.0 ∙ ap (λ (c : Caused). fall_entries also.split c takes.second) falls.1
            ∙ ap (fall_entries also.split also.first) falls.2 ∙ sym also.lines,
      )
