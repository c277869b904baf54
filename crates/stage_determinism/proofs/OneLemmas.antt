-- What stages do leaves no choice.
use Rattle.std.proofs.Common.{◌≡◌, true, false, Option, Some, None, refl, sym, ap, subst, ◌∙◌}
use Rattle.addr4.specs.Prefixes.{AddressPrefix, ComesBefore}
use Rattle.addr4.proofs.PrefixOrder.{by_prefix}
use Rattle.addr4.proofs.RankLemmas.{one_first}
use Rattle.link_change.specs.Rows.{Rows, Candidates, IsNextCandidate, no_rows, with_row, computed_rows}
use Rattle.link_change.specs.Changes.{IsSent}
use Rattle.link_change.specs.Changes.{Change}
use Rattle.link_change.proofs.RowLemmas.{with_row_here}
use Rattle.link_change.proofs.InOrderLemmas.{with_row_elsewhere}
use Rattle.pass_core.specs.Passed.{Passed, Walked}
use Rattle.pass_core.specs.Turns.{IsSentAt, walked_on, passed, passed_rows}
use Rattle.stage_determinism.specs.Laws.{SentIsOne, SentMakesOne, ChangeIsOne, NextIsOne, ComputedIsOne, PassedIsOne, WalkIsOne}

-- what is either equal or leads to no end, is equal
pub same_or_never : (p q : AddressPrefix) → ((p ≡ q → ⊥) → ⊥) → p ≡ q
same_or_never p q never = by_prefix p q (λ _. p ≡ q) (λ same. same) (λ apart. absurd (never apart))

module _ {R : Type 0} where
  -- changes with the same parts are one
  pub one_change : (one other : Change R) → one.prefix ≡ other.prefix → one.before ≡ other.before → one.after ≡ other.after → one ≡ other
  one_change one other prefix before after =
      ap (λ (p : AddressPrefix). record { prefix = p; before = one.before; after = one.after }) prefix
      ∙ ap (λ (row : Option R). record { prefix = other.prefix; before = row; after = one.after }) before
      ∙ ap (λ (row : Option R). record { prefix = other.prefix; before = other.before; after = row }) after

  -- what was sent stands at its prefix afterwards
  after_stands : (old new : Rows R) (p : AddressPrefix) (c : Change R) → IsSent old new p (Some c) → new c.prefix ≡ c.after
  after_stands old new p c sent = ap (λ (rows : Rows R). rows c.prefix) sent.2 ∙ with_row_here old c.prefix c.after

  -- rows that stay are sent nothing
  silent : (old new : Rows R) (p : AddressPrefix) (c : Change R) → new ≡ old → IsSent old new p (Some c) → ⊥
  silent old new p c same sent = sent.1.1 (sym (after_stands old new p c sent) ∙ ap (λ (rows : Rows R). rows c.prefix) same ∙ sent.1.0)

  -- rows change at one prefix alone
  one_place : (old new : Rows R) (p q : AddressPrefix) (c d : Change R) → IsSent old new p (Some c) → IsSent old new q (Some d) → c.prefix ≡ d.prefix
  one_place old new p q c d first second = same_or_never c.prefix d.prefix (λ apart.
      first.1.1 (sym (after_stands old new p c first) ∙ ap (λ (rows : Rows R). rows c.prefix) second.2 ∙ with_row_elsewhere old d.prefix d.after c.prefix apart ∙ first.1.0))

  pub sent_is_one : SentIsOne R
  sent_is_one old new p q None None first second = refl
  sent_is_one old new p q None (Some d) first second = absurd (silent old new q d first second)
  sent_is_one old new p q (Some c) None first second = absurd (silent old new p c second first)
  sent_is_one old new p q (Some c) (Some d) first second =
      let here : c.prefix ≡ d.prefix = one_place old new p q c d first second in
      ap (λ (x : Change R). Some x) (one_change c d here (sym first.1.0 ∙ ap old here ∙ second.1.0) (sym (after_stands old new p c first) ∙ ap new here ∙ after_stands old new q d second))

  pub sent_makes_one : SentMakesOne R
  sent_makes_one old new now p q None first second = first ∙ sym second
  sent_makes_one old new now p q (Some c) first second = first.2 ∙ sym second.2

  pub change_is_one : ChangeIsOne R
  change_is_one p before after None None first second = refl
  change_is_one p before after None (Some d) first second = absurd (second.3 first)
  change_is_one p before after (Some c) None first second = absurd (first.3 second)
  change_is_one p before after (Some c) (Some d) first second =
      ap (λ (x : Change R). Some x) (one_change c d (first.0 ∙ sym second.0) (first.1 ∙ sym second.1) (first.2 ∙ sym second.2))

-- one candidate that comes before the other is the lesser one
earlier_is_none : (candidates : Candidates) (place : Option AddressPrefix) (p q : AddressPrefix) → IsNextCandidate candidates place (Some p) → IsNextCandidate candidates place (Some q) → ComesBefore p q → ⊥
earlier_is_none candidates place p q first second before = let clash : true ≡ false = sym first.1 ∙ second.2 p first.0 before in absurd (cc)

pub next_is_one : NextIsOne
next_is_one candidates place None None first second = refl
next_is_one candidates place None (Some q) first second = absurd (let clash : true ≡ false = sym second.1 ∙ first q second.0 in cc)
next_is_one candidates place (Some p) None first second = absurd (let clash : true ≡ false = sym first.1 ∙ second p first.0 in cc)
next_is_one candidates place (Some p) (Some q) first second = ap (λ (x : AddressPrefix). Some x) (same_or_never p q (λ apart.
    earlier_is_none candidates place p q first second (one_first p q apart (earlier_is_none candidates place q p second first))))

module _ {A B : Type 0} where
  -- from a single row the change leads to another one
  pub computed_is_one : ComputedIsOne A B
  computed_is_one f change one other differ first second =
      let upper : Rows A = with_row no_rows change.prefix change.before in
      let now : Rows A = with_row upper change.prefix change.after in
      let sent : IsSent upper now change.prefix (Some change) = (refl, (with_row_here no_rows change.prefix change.before, differ), refl) in
      sent_is_one (computed_rows f upper) (computed_rows f now) change.prefix change.prefix one other (first upper now change.prefix sent) (second upper now change.prefix sent)

-- what is sent at the next candidate, if there is one, is one
pub sent_at_is_one : {R : Type 0} (next : Option AddressPrefix) (old new : Rows R) (one other : Option (Change R)) → IsSentAt next old new one → IsSentAt next old new other → one ≡ other
sent_at_is_one None old new one other first second = first.0 ∙ sym second.0
sent_at_is_one (Some p) old new one other first second = sent_is_one old new p p one other first second

-- the walk that is on is one
one_walk : {F : Type 0} (w v : Walked F) → Some w ≡ Some v → w ≡ v
one_walk w v same = cc

module _ {F A B : Type 0} where
  pub passed_is_one : PassedIsOne F A B
  passed_is_one apply s change one other differ first second = computed_is_one (passed apply s) change one other differ first second

  pub walk_is_one : WalkIsOne F A B
  walk_is_one apply candidates upper old new now one other first second =
      let walk : second.walk ≡ first.walk = one_walk second.walk first.walk (sym second.on ∙ first.on) in
      let least : IsNextCandidate candidates first.walk.place second.next = subst (λ (w : Walked F). IsNextCandidate candidates w.place second.next) walk second.least in
      let next : second.next ≡ first.next = next_is_one candidates first.walk.place second.next first.next least first.least in
      let same : now ≡ new = second.after ∙ ap (λ (n : Option AddressPrefix). walked_on n old) next ∙ sym first.after in
      let sent : IsSentAt first.next (passed_rows apply old upper) (passed_rows apply new upper) other =
      subst (λ (s : Passed F). IsSentAt first.next (passed_rows apply old upper) (passed_rows apply s upper) other) same
      (subst (λ (n : Option AddressPrefix). IsSentAt n (passed_rows apply old upper) (passed_rows apply now upper) other) next second.changes) in
      (sym same, sent_at_is_one first.next (passed_rows apply old upper) (passed_rows apply new upper) one other first.changes sent)
