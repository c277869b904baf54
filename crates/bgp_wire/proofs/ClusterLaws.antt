-- The clusters of a CLUSTER_LIST, one after the other.
use Rattle.std.proofs.Common.{◌≡◌, ℕ, zero, suc, ◌+◌, ◌*◌, ◌/◌, ◌<◌, ◌≤◌, List, [], ◌∷◌, ◌++◌, length, drop, refl, sym, ◌∙◌, append_assoc, arith}
use Rattle.std.proofs.lemmas.List.{append-nil, length-drop}
use Rattle.byteorder.specs.Endian.{big_number}
use Rattle.bgp_wire.specs.Paths.{numbers_at}
use Rattle.bgp_wire.specs.Routes.{clusters_at}

-- so many are read, and so many are left
pub record IsReadSo (value : List ℕ) (count done : ℕ) (rest items : List ℕ) : Type 0 where
  pub left : ℕ
  pub all : done + left ≡ count
  pub room : 4 * left ≤ length rest
  pub so_far : items ++ numbers_at 4 left rest ≡ clusters_at value

pub starts : (value : List ℕ) → IsReadSo value (length value / 4) 0 value []
starts value = record { left = length value / 4; all = omega arith; room = omega arith; so_far = refl }

pub goes : (value : List ℕ) (count done : ℕ) (rest items : List ℕ) → done < count → IsReadSo value count done rest items → IsReadSo value count (done + 1) (drop 4 rest) (items ++ big_number 4 rest ∷ [])
goes value count done rest items less is = by_left is.left is.all is.room is.so_far
  where
    by_left : (left : ℕ) → done + left ≡ count → 4 * left ≤ length rest → items ++ numbers_at 4 left rest ≡ clusters_at value → IsReadSo value count (done + 1) (drop 4 rest) (items ++ big_number 4 rest ∷ [])
    by_left zero all room so_far = absurd (omega arith)
    by_left (suc left) all room so_far = record {
      left = left;
      all = omega arith;
      room = omega (arith, length-drop 4 rest);
      so_far = append_assoc items (big_number 4 rest ∷ []) (numbers_at 4 left (drop 4 rest)) ∙ so_far;
    }

pub has_room : (value : List ℕ) (count done : ℕ) (rest items : List ℕ) → done < count → IsReadSo value count done rest items → 4 ≤ length rest
has_room value count done rest items less is = omega (arith, is.all, is.room)

pub ends : (value : List ℕ) (count done : ℕ) (rest items : List ℕ) → count ≤ done → IsReadSo value count done rest items → items ≡ clusters_at value
ends value count done rest items end is = by_left is.left is.all is.so_far
  where
    by_left : (left : ℕ) → done + left ≡ count → items ++ numbers_at 4 left rest ≡ clusters_at value → items ≡ clusters_at value
    by_left zero all so_far = sym (append-nil items) ∙ so_far
    by_left (suc left) all so_far = absurd (omega arith)
