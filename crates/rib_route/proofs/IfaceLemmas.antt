-- Names of interfaces, kept in 15 bytes.
use Rattle.std.proofs.Common.{◌≡◌, ℕ, true, List, ◌++◌, length, take, drop, replicate, sym, ap, ◌∙◌}
use Rattle.std.proofs.Math.Seq.{take-append_seam}
use Rattle.std.proofs.lemmas.List.{drop-replicate}
use Rattle.rib_route.specs.Ifaces.{is_iface_name, padded, IsKept}

abbrev zeros : ℕ → List ℕ
zeros n = replicate n 0

-- a name in front of what is left of 15 zeros
pub kept : (name : List ℕ) → is_iface_name name ≡ true → IsKept (name ++ drop (length name) (zeros 15)) (length name)
kept name is =
    let rest : List ℕ = drop (length name) (zeros 15) in
    let front : take (length name) (name ++ rest) ≡ name = take-append_seam name rest in
    record {
      name = ap is_iface_name front ∙ is;
      fits = ap length front;
      rest = ap padded front ∙ ap (λ zs. name ++ zs) (sym (drop-replicate (length name) 15 0));
    }
