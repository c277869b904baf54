-- Octets that are taken piece by piece.
use Rattle.std.proofs.Common.{◌≡◌, ℕ, zero, suc, ◌+◌, ◌-◌, ◌≤◌, Bool, true, false, List, [], ◌∷◌, ◌++◌, length, take, drop, min, Option, Some, None, Ok, sym, ap, ◌∙◌, subst, arith, append_assoc, length-append, length-take}
use Rattle.std.proofs.lemmas.List.{append-nil, take-append-drop}
use Rattle.std.proofs.KnownBytes.{Consumes-trans}
use Rattle.std.specs.Io.KnownBytes.{Consumes, prepend_known}
use Rattle.mrt_reader.specs.Records.{AreBytes}
use Rattle.mrt_reader.specs.Sources.{IsReady}

pass_part : (part : ℕ) (xs : List ℕ) (a : Option (List ℕ)) → Consumes (prepend_known xs a) (prepend_known (drop part xs) a) (take part xs)
pass_part part xs None = tt
pass_part part xs (Some a) = ap (λ t. t ++ a) (sym (take-append-drop part xs)) ∙ append_assoc (take part xs) (drop part xs) a

-- so many octets were taken, and so many are missing
pub record IsTaking (before now : Option (List ℕ)) (count missing : ℕ) (octets : List ℕ) : Type 0 where
  pub consumed : Consumes before now octets
  pub counted : length octets + missing ≡ count

pub taking_more : (a b : Option (List ℕ)) (c : Option (List ℕ)) (count missing part : ℕ) (octets xs : List ℕ) → part ≤ missing → part ≤ length xs → IsTaking a b count missing octets → Consumes b (prepend_known xs c) [] → IsTaking a (prepend_known (drop part xs) c) count (missing - part) (octets ++ take part xs)
taking_more a b c count missing part octets xs few here t ready =
    let whole : Consumes a (prepend_known xs c) octets =
    subst (λ (os : List ℕ). Consumes a (prepend_known xs c) os) (append-nil octets) (Consumes-trans a b (prepend_known xs c) octets [] t.consumed ready) in
    record {
      consumed = Consumes-trans a (prepend_known xs c) (prepend_known (drop part xs) c) octets (take part xs) whole (pass_part part xs c);
      counted = omega (arith, t.counted, length-append octets (take part xs), length-take part xs);
    }

-- octets are there
ready_then : (b c : Option (List ℕ)) (xs : List ℕ) (some : Bool) → some ≡ true → IsReady b c xs (Ok some) → Consumes b c []
ready_then b c xs true is ready = ready.0
ready_then b c xs false is ready = absurd (cc)

-- one piece more was taken
pub takes_part : (a b c : Option (List ℕ)) (count missing part : ℕ) (octets xs ys : List ℕ) (some : Bool) → some ≡ true → part ≡ min (length xs) missing → ys ≡ drop part xs → IsTaking a b count missing octets → IsReady b (prepend_known xs c) xs (Ok some) → IsTaking a (prepend_known ys c) count (missing - part) (octets ++ take part xs)
takes_part a b c count missing part octets xs ys some is least rest t ready =
    subst (λ (zs : List ℕ). IsTaking a (prepend_known zs c) count (missing - part) (octets ++ take part xs)) (sym rest)
    (taking_more a b c count missing part octets xs (omega (arith, least)) (omega (arith, least)) t (ready_then b (prepend_known xs c) xs some is ready))

-- and appended
pub append_part : (new out first octets : List ℕ) (part : ℕ) (here xs : List ℕ) → new ≡ out ++ take part here → out ≡ first ++ octets → here ≡ xs → new ≡ first ++ (octets ++ take part xs)
append_part new out first octets part here xs more was same = more ∙ ((λ i. was i ++ take part (same i)) ∙ append_assoc first octets (take part xs))

-- ---- bytes

pub bytes_append : (xs ys : List ℕ) → AreBytes xs → AreBytes ys → AreBytes (xs ++ ys)
bytes_append [] ys p q i = q i
bytes_append (x ∷ xs) ys p q zero = p 0
bytes_append (x ∷ xs) ys p q (suc i) = bytes_append xs ys (λ j. p (suc j)) q i

pub bytes_take : (n : ℕ) (xs : List ℕ) → AreBytes xs → AreBytes (take n xs)
bytes_take zero xs p i = omega arith
bytes_take (suc n) [] p i = omega arith
bytes_take (suc n) (x ∷ xs) p zero = p 0
bytes_take (suc n) (x ∷ xs) p (suc i) = bytes_take n xs (λ j. p (suc j)) i
