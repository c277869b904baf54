-- Whose network reads a message doesn't matter to what is read.
use Rattle.std.proofs.Common.{◌≡◌, ℕ, zero, suc, Bool, List, [], ◌∷◌, ◌++◌, Option, Some, None, Result, Ok, Err, refl, ◌==◌, cond, false, length}
use Rattle.bgp_attr.specs.declared.speaker.Profile.{Profile}
use Rattle.bgp_wire.specs.Attributes.{Attribute, Kept, rule_of, judgement, attributes_step, attributes_within, attribute_at}
use Rattle.bgp_wire.specs.Updates.{header_at, reading_at, content_at, fields_at, bad_prefix, refresh_at, opening, notification, keepalive, refresh, update}
use Rattle.bgp_wire.specs.Prefixes.{prefixes_at}
use Rattle.bgp_wire.specs.Faults.{◌>>=◌}
use Rattle.bgp_wire.specs.declared.notice.Notice.{Notice}
use Rattle.router.specs.Ties.{in_second}
use Rattle.router.specs.Laws.{SessionsEndInBoth}

pub judged_same : (p : Profile) (external : Bool) (seen : List ℕ) (a : Attribute) → judgement (in_second p) external seen a ≡ judgement p external seen a
unfolding judgement rule_of
judged_same p external seen a = refl

abbrev Later : Type 0
Later = List ℕ → List ℕ → Result Kept Notice

step_same : (p : Profile) (external : Bool) (seen : List ℕ) (o : Option (Attribute × List ℕ)) (one other : Later) → ((kinds rest : List ℕ) → one kinds rest ≡ other kinds rest)
    → attributes_step (in_second p) external seen o one ≡ attributes_step p external seen o other
step_same p external seen None one other same = refl
step_same p external seen (Some x) one other same = rw (judged_same p external seen x.0) (rw (same (seen ++ x.0.kind ∷ []) x.1) refl)

within_same : (n : ℕ) (p : Profile) (external : Bool) (seen bytes : List ℕ) → attributes_within n (in_second p) external seen bytes ≡ attributes_within n p external seen bytes
unfolding attributes_within
within_same n p external seen [] = refl
within_same zero p external seen (b ∷ bytes) = refl
within_same (suc n) p external seen (b ∷ bytes) = step_same p external seen (attribute_at (b ∷ bytes)) _ _ (λ kinds rest. within_same n p external kinds rest)

bind_same : {A : Type 0} {B : Type 0} (o : Result A Notice) (f g : A → Result B Notice) → ((x : A) → f x ≡ g x) → (o >>= f) ≡ (o >>= g)
bind_same (Ok x) f g same = same x
bind_same (Err e) f g same = refl

reading_same : (p : Profile) (external : Bool) (bytes : List ℕ) → reading_at (in_second p) external bytes ≡ reading_at p external bytes
unfolding reading_at
reading_same p external bytes =
    bind_same (fields_at bytes) _ _ (λ fields.
    bind_same (prefixes_at false bad_prefix fields.withdrawn) _ _ (λ withdrawn.
    rw (within_same (length fields.attributes) p external [] fields.attributes) refl))

by_kind : (p : Profile) (external : Bool) (bytes : List ℕ) (one three four five : Bool) → reading_at (in_second p) external bytes ≡ reading_at p external bytes
    → cond one (Ok opening) (cond three (Ok notification) (cond four (Ok keepalive) (cond five (Ok (refresh (refresh_at bytes))) (reading_at (in_second p) external bytes >>= λ r. Ok (update r)))))
    ≡ cond one (Ok opening) (cond three (Ok notification) (cond four (Ok keepalive) (cond five (Ok (refresh (refresh_at bytes))) (reading_at p external bytes >>= λ r. Ok (update r)))))
by_kind p external bytes one three four five same = rw same refl

content_same : (p : Profile) (external : Bool) (bytes : List ℕ) → content_at (in_second p) external bytes ≡ content_at p external bytes
unfolding content_at
content_same p external bytes =
    bind_same (header_at bytes) _ _ (λ kind. by_kind p external bytes (kind == 1) (kind == 3) (kind == 4) (kind == 5) (reading_same p external bytes))

pub sessions_end : SessionsEndInBoth
sessions_end p external octets = rw (content_same p external octets) refl
