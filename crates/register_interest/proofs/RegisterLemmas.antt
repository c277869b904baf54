-- What a register keeps.
use Rattle.std.proofs.Common.{◌≡◌, ℕ, ◌<◌, ◌≤◌, arith, cond, List, [], ◌∷◌, sym, ap, ◌∙◌, subst, Option, Some, None}
use Rattle.std.specs.FinMap.{FinMap, from_entries, empty, get, insert, remove, get-insert, get-remove, get-empty}
use Rattle.addr4.specs.Prefixes.{AddressPrefix, prefix_cmp, IsMasked}
use Rattle.link_change.specs.Rows.{Rows, with_row}
use Rattle.link_change.proofs.RowLemmas.{rows_inserted, rows_removed}
use Rattle.link_change.proofs.MapLemmas.{by_key}
use Rattle.register_interest.specs.Width.{width}
use Rattle.register_interest.specs.Covers.{longest, matched, IsCover, IsHit, Stands}
use Rattle.register_interest.specs.Interests.{Interest}
use Rattle.register_interest.specs.Interests.{Interests, interest_cmp, IsProper, AreShortIn, AreReached, without}
use Rattle.std.specs.BTreeMap.{BTreeMap}
use Rattle.addr4.proofs.PrefixOrder.{by_prefix}
use Rattle.register_interest.specs.Search.{rows_in, AreShort}
use Rattle.register_interest.specs.Registers.{AllStand, KeepsAnswers, put_row}
use Rattle.register_interest.proofs.CoverLemmas.{cover_stands, not_hit, still_stands}
use Rattle.register_interest.proofs.InterestLemmas.{interests_total, exact_interests, without_listed}

removed_some : (m : Interests) (k q : Interest) (f : Option AddressPrefix) → get (remove m k) q ≡ Some f → get m q ≡ Some f
removed_some m k q f e =
    by_key interests_total exact_interests q k (λ b. cond b None (get m q) ≡ Some f → get m q ≡ Some f)
    (λ _ n. let clash : None ≡ Some f = n in cc) (λ _ n. n) (sym (get-remove interests_total m k q) ∙ e)

-- what is left was there
without_some : (m : Interests) (ks : List Interest) (q : Interest) (f : Option AddressPrefix) → get (without m ks) q ≡ Some f → get m q ≡ Some f
without_some m [] q f e = e
without_some m (k ∷ ks) q f e = removed_some m k q f (without_some (remove m k) ks q f e)

-- an interest that is left wasn't reached
left_out : (p : AddressPrefix) (m : Interests) (out : List Interest) (k : Interest) (f : Option AddressPrefix) → AreReached width p (get m) out → get (without m out) k ≡ Some f → IsHit width p k.subnet f → ⊥
left_out p m out k f is e hit = let clash : None ≡ Some f = sym (without_listed m out k (is.all k f (without_some m out k f e) hit)) ∙ e in cc

module _ {R : Type 0} where
  rows_put : (m : FinMap prefix_cmp R) (p : AddressPrefix) (new : Option R) → get (put_row m p new) ≡ with_row (get m) p new
  rows_put m p None = rows_removed m p
  rows_put m p (Some v) = rows_inserted m p v

  pub none_stand : (rows : FinMap prefix_cmp R) → AllStand (record { rows = rows; interests = empty })
  none_stand rows = λ k f is. absurd (let clash : None ≡ Some f = sym (get-empty interest_cmp k) ∙ is in cc)

  pub removed_stands : (rows : FinMap prefix_cmp R) (m : Interests) (k : Interest) → AllStand (record { rows = rows; interests = m }) → AllStand (record { rows = rows; interests = remove m k })
  removed_stands rows m k all = λ q f e. all q f (removed_some m k q f e)

  pub added_stands : (rows : FinMap prefix_cmp R) (m : Interests) (k : Interest) (a : ℕ) (r : Option (AddressPrefix × R)) → k.client < 256 → AllStand (record { rows = rows; interests = m }) → IsCover width (get rows) a r k.subnet → AllStand (record { rows = rows; interests = insert m k (matched r) })
  added_stands rows m k a r octet all is = λ q f e.
      by_key interests_total exact_interests q k (λ b. cond b (Some (matched r)) (get m q) ≡ Some f → IsProper width q × Stands width (get rows) q.subnet f)
      (λ same here.
      let f_is : matched r ≡ f = cc in
      let stands : Stands width (get rows) k.subnet (matched r) = cover_stands width (get rows) a r k.subnet is in
      (subst (λ (x : Interest). IsProper width x) (sym same) (is.subnet.masked, octet), subst (λ (x : Interest). Stands width (get rows) x.subnet f) (sym same) (subst (λ (x : Option AddressPrefix). Stands width (get rows) k.subnet x) f_is stands)))
      (λ _ old. all q f old)
      (sym (get-insert interests_total m k (matched r) q) ∙ e)

  pub changed_keeps : (rows : FinMap prefix_cmp R) (m : Interests) (p : AddressPrefix) (new : Option R) (out : List Interest) → IsMasked width p → AllStand (record { rows = rows; interests = m }) → AreReached width p (get m) out → KeepsAnswers (record { rows = rows; interests = m }) (record { rows = put_row rows p new; interests = without m out })
  changed_keeps rows m p new out mp all is = λ k f e.
      let was = without_some m out k f e in
      let stood = all k f was in
      (was, λ a ha. ap (λ (r : Rows R). longest width r a) (rows_put rows p new) ∙ not_hit width (get rows) p new k.subnet f mp stood.0.0 stood.1 (left_out p m out k f is e) a ha)

  pub changed_stands : (rows : FinMap prefix_cmp R) (m : Interests) (p : AddressPrefix) (new : Option R) (out : List Interest) → IsMasked width p → AllStand (record { rows = rows; interests = m }) → AreReached width p (get m) out → AllStand (record { rows = put_row rows p new; interests = without m out })
  changed_stands rows m p new out mp all is = λ k f e.
      let stood = all k f (without_some m out k f e) in
      (stood.0, subst (λ (r : Rows R). Stands width r k.subnet f) (sym (rows_put rows p new)) (still_stands width (get rows) p new k.subnet f mp stood.0.0 stood.1 (left_out p m out k f is e)))

  -- ---- no row and no subnet has more bits than the family's addresses
  pub none_short : (most : ℕ) (m : BTreeMap AddressPrefix R) → m.entries ≡ [] → AreShort most (get (rows_in m))
  none_short most m none = λ p lt. ap (λ (es : List (AddressPrefix × R)). get (from_entries {R = prefix_cmp} es) p) none ∙ get-empty prefix_cmp p

  pub changed_short : (most : ℕ) (rows : FinMap prefix_cmp R) (p : AddressPrefix) (new : Option R) → p.length ≤ most → AreShort most (get rows) → AreShort most (get (put_row rows p new))
  changed_short most rows p new few short = λ q lt.
      ap (λ (r : Rows R). r q) (rows_put rows p new)
      ∙ by_prefix q p (λ b. cond b new (get rows q) ≡ None) (λ same. absurd (let l : q.length ≡ p.length = ap (λ (x : AddressPrefix). x.length) same in omega arith)) (λ _. short q lt)

pub no_interest_short : (most : ℕ) → AreShortIn most empty
no_interest_short most = λ k f is. absurd (let clash : None ≡ Some f = sym (get-empty interest_cmp k) ∙ is in cc)

pub removed_short : (most : ℕ) (m : Interests) (k : Interest) → AreShortIn most m → AreShortIn most (remove m k)
removed_short most m k short = λ q f e. short q f (removed_some m k q f e)

pub left_short : (most : ℕ) (m : Interests) (out : List Interest) → AreShortIn most m → AreShortIn most (without m out)
left_short most m out short = λ q f e. short q f (without_some m out q f e)

pub added_short : (most : ℕ) (m : Interests) (k : Interest) (f : Option AddressPrefix) → k.subnet.length ≤ most → AreShortIn most m → AreShortIn most (insert m k f)
added_short most m k f few short = λ q x e.
    by_key interests_total exact_interests q k (λ b. cond b (Some f) (get m q) ≡ Some x → q.subnet.length ≤ most)
    (λ same _. subst (λ (y : Interest). y.subnet.length ≤ most) (sym same) few)
    (λ _ old. short q x old)
    (sym (get-insert interests_total m k f q) ∙ e)
