-- How many turns a walk still takes.
use Rattle.std.proofs.Common.{◌≡◌, ℕ, ◌+◌, ◌*◌, ◌<◌, ◌≤◌, true, false, is_some, Option, Some, None, refl, sym, subst, arith}
use Rattle.addr4.specs.Prefixes.{AddressPrefix}
use Rattle.link_change.specs.Rows.{Candidates, IsNextCandidate}
use Rattle.pass_core.specs.Passed.{Passed, Walked, walk_of_waiting, walk_stepped, after_walk}
use Rattle.pass_core.specs.Turns.{walked_on}
use Rattle.pass_core.specs.Left.{CountsBeyond, waiting_turns, walk_turns, turns_left}
use Rattle.pass_core.specs.Laws.{WalkIsSpent, LeftIsBounded, LeftWhileOn, LeftFollows}

module _ {F : Type 0} (beyond : Option AddressPrefix → ℕ) where
  -- the turn that ends a walk
  ended_turns : (place : Option AddressPrefix) (waiting : Option F)
      → walk_turns beyond (walk_of_waiting waiting) < beyond place + 1 + waiting_turns beyond waiting
  ended_turns place None = omega arith
  ended_turns place (Some f) = omega arith

  fewer_turns : (candidates : Candidates) (s new : Passed F) (w : Walked F) (next : Option AddressPrefix) → CountsBeyond candidates beyond
      → s.walk ≡ Some w → new ≡ walked_on next s → IsNextCandidate candidates w.place next → turns_left beyond new < turns_left beyond s
  fewer_turns candidates s new w None counts on is least =
      let P : Passed F → Type 0 = λ n. walk_turns beyond n.walk < walk_turns beyond s.walk in
      let Q : Option (Walked F) → Type 0 = λ o. walk_turns beyond (after_walk s.in_force o).walk < walk_turns beyond o in
      subst P (sym is) (subst Q (sym on) (ended_turns w.place w.waiting))
  fewer_turns candidates s new w (Some p) counts on is least =
      let P : Passed F → Type 0 = λ n. walk_turns beyond n.walk < walk_turns beyond s.walk in
      let Q : Option (Walked F) → Type 0 = λ o. walk_turns beyond (walk_stepped o p) < walk_turns beyond o in
      let step = counts.fewer w.place p least in
      subst P (sym is) (subst Q (sym on) (omega (arith, step)))

  waiting_bounded : (waiting : Option F) → waiting_turns beyond waiting ≤ beyond None + 1
  waiting_bounded None = omega arith
  waiting_bounded (Some f) = omega arith

  walk_bounded : (candidates : Candidates) (walk : Option (Walked F)) → CountsBeyond candidates beyond → walk_turns beyond walk ≤ 2 * (beyond None + 1)
  walk_bounded candidates None counts = omega arith
  walk_bounded candidates (Some w) counts =
      let most = counts.most w.place in
      let more = waiting_bounded w.waiting in
      omega (arith, most, more)

  walk_left : (walk : Option (Walked F)) → (is_some walk ≡ true → 0 < walk_turns beyond walk) × (is_some walk ≡ false → walk_turns beyond walk ≡ 0)
  walk_left None = (λ e. absurd (let clash : false ≡ true = e in cc), λ _. refl)
  walk_left (Some w) = (λ _. omega arith, λ e. absurd (let clash : true ≡ false = e in cc))

module _ {F : Type 0} (before now : Option AddressPrefix → ℕ) (less : (place : Option AddressPrefix) → now place ≤ before place) where
  waiting_follows : (waiting : Option F) → waiting_turns now waiting ≤ waiting_turns before waiting
  waiting_follows None = omega arith
  waiting_follows (Some f) = let all = less None in omega (arith, all)

  walk_follows : (walk : Option (Walked F)) → walk_turns now walk ≤ walk_turns before walk
  walk_follows None = omega arith
  walk_follows (Some w) =
      let left = less w.place in
      let more = waiting_follows w.waiting in
      omega (arith, left, more)

pub walk_is_spent : {F A B : Type 0} → WalkIsSpent F A B
walk_is_spent apply candidates upper beyond old new sent counts h = fewer_turns beyond candidates old new h.walk h.next counts h.on h.after h.least

pub left_is_bounded : {F : Type 0} → LeftIsBounded F
left_is_bounded candidates beyond s counts = walk_bounded beyond candidates s.walk counts

pub left_while_on : {F : Type 0} → LeftWhileOn F
left_while_on beyond s = walk_left beyond s.walk

pub left_follows : {F : Type 0} → LeftFollows F
left_follows before now s less = walk_follows before now less s.walk
