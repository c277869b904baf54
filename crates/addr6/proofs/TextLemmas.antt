-- What the text of an address is.
use Rattle.std.proofs.Common.{◌≡◌, ℕ, ◌/◌, ◌%◌, ◌^◌, ◌<◌, List, [], ◌∷◌, ◌++◌, None, length, refl, arith, append_assoc, append-nil}
use Rattle.std.specs.Net.Text.{hex}
use Rattle.addr4.specs.Texts.{addr6_text}

words : (xs a b c d e f g h : List ℕ) → (((((((xs ++ a) ++ b) ++ c) ++ d) ++ e) ++ f) ++ g) ++ h ≡ xs ++ (a ++ (b ++ (c ++ (d ++ (e ++ (f ++ (g ++ (h ++ []))))))))
words xs a b c d e f g h = simp (append_assoc, append-nil)

-- the text of an address, appended group by group
pub printed : (xs a b c d e f g h : List ℕ) (n addr : ℕ) → n ≡ addr → a ≡ xs ++ hex (n / 2 ^ 112 % 65536) → b ≡ a ++ 58 ∷ hex (n / 2 ^ 96 % 65536) → c ≡ b ++ 58 ∷ hex (n / 2 ^ 80 % 65536) → d ≡ c ++ 58 ∷ hex (n / 2 ^ 64 % 65536)
    → e ≡ d ++ 58 ∷ hex (n / 2 ^ 48 % 65536) → f ≡ e ++ 58 ∷ hex (n / 2 ^ 32 % 65536) → g ≡ f ++ 58 ∷ hex (n / 2 ^ 16 % 65536) → h ≡ g ++ 58 ∷ hex (n % 65536) → h ≡ xs ++ addr6_text addr
unfolding addr6_text
printed xs a b c d e f g h n addr is to_a to_b to_c to_d to_e to_f to_g to_h =
    rw (to_h, to_g, to_f, to_e, to_d, to_c, to_b, to_a, is)
    (words xs (hex (addr / 2 ^ 112 % 65536)) (58 ∷ hex (addr / 2 ^ 96 % 65536)) (58 ∷ hex (addr / 2 ^ 80 % 65536)) (58 ∷ hex (addr / 2 ^ 64 % 65536)) (58 ∷ hex (addr / 2 ^ 48 % 65536)) (58 ∷ hex (addr / 2 ^ 32 % 65536)) (58 ∷ hex (addr / 2 ^ 16 % 65536)) (58 ∷ hex (addr % 65536)))
