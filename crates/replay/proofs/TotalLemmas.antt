-- The texts of totals.
use Rattle.std.proofs.Common.{false, ◌≡◌, ℕ, suc, ◌+◌, ◌-◌, ◌^◌, ◌<◌, ◌≤◌, List, [], ◌∷◌, ◌++◌, length, take, drop, get_or, codes, refl, sym, ap, ◌∙◌, arith, subst, append_assoc}
use Rattle.std.proofs.lemmas.List.{append-nil, length-drop}
use Rattle.std.proofs.Math.Seq.{take-length, take-suc}
use Rattle.journal_text.specs.declared.line.Line.TheVariants.{Rows, Work}
use Rattle.journal_text.specs.declared.link.Link.{Link}
use Rattle.journal_text.specs.Texts.{line_text}
use Rattle.router_moments.specs.Moments.{Moment, router_links}
use Rattle.replay.specs.Totals.{Adds, AreTotals, AreTotalsOf, IsTotal, rows_line, total_links, turns_line}

-- a line's text begins with its first word, here one of four bytes
pub long_work : (turns : ℕ) → 4 ≤ length (line_text false (Work turns))
unfolding line_text
long_work turns = omega arith

pub long_rows : (link : Link) (rows : ℕ) → 4 ≤ length (line_text false (Rows link rows))
unfolding line_text
long_rows link rows = omega arith

-- another first word
pub behind_work : (turns : ℕ) → codes "total turns" ++ drop 4 (line_text false (Work turns)) ≡ turns_line turns
unfolding line_text
behind_work turns = refl

pub behind_rows : (link : Link) (rows : ℕ) → codes "total" ++ drop 4 (line_text false (Rows link rows)) ≡ rows_line link rows
unfolding line_text
behind_rows link rows = refl

-- what stands behind the first bytes
pub slice_rest : (n : ℕ) (t : List ℕ) → take (length t - n) (drop n t) ≡ drop n t
slice_rest n t = ap (λ k. take k (drop n t)) (sym (length-drop n t)) ∙ take-length (drop n t)

-- ---- links, one after the other

-- the totals of some links, and of one more
totals_more : (m : Moment) (done : List Link) (link : Link) (a b : List ℕ) → AreTotalsOf m done a → IsTotal link (router_links m link) b → AreTotalsOf m (done ++ link ∷ []) (a ++ b)
totals_more m [] link a b e is = (b, [], is, refl, ap (λ t. t ++ b) e ∙ sym (append-nil b))
totals_more m (d ∷ done) link a b h is = (h.0, h.1 ++ b, h.2, totals_more m done link h.1 b h.3 is, ap (λ t. t ++ b) h.4 ∙ append_assoc h.0 h.1 b)

pub each_then : (m : Moment) (done : List Link) (link : Link) (before middle now : List ℕ) → Adds (AreTotalsOf m done) before middle → Adds (IsTotal link (router_links m link)) middle now → Adds (AreTotalsOf m (done ++ link ∷ [])) before now
each_then m done link before middle now f g = (f.0 ++ g.0, totals_more m done link f.0 g.0 f.1 g.1, g.2 ∙ (ap (λ t. t ++ g.0) f.2 ∙ append_assoc before f.0 g.0))

-- the same, by index
pub each_at : (m : Moment) (links : List Link) (at : ℕ) (d : Link) (before middle now : List ℕ) → at < length links → Adds (AreTotalsOf m (take at links)) before middle → Adds (IsTotal (get_or links at d) (router_links m (get_or links at d))) middle now → Adds (AreTotalsOf m (take (at + 1) links)) before now
each_at m links at d before middle now below f g =
    let next : suc at ≡ at + 1 = omega arith in
    let more : take at links ++ get_or links at d ∷ [] ≡ take (at + 1) links = sym (take-suc links at d below) ∙ ap (λ k. take k links) next in
    subst (λ (ls : List Link). Adds (AreTotalsOf m ls) before now) more (each_then m (take at links) (get_or links at d) before middle now f g)

-- all of them, behind the turns
pub totals_all : (m : Moment) (turns : ℕ) (before middle now : List ℕ) → turns < 2 ^ 128 → middle ≡ before ++ turns_line turns → Adds (AreTotalsOf m (total_links m.declared.peers)) middle now → Adds (AreTotals m turns) before now
totals_all m turns before middle now small e h = (turns_line turns ++ h.0, (h.0, h.1, small, refl), h.2 ∙ (ap (λ t. t ++ h.0) e ∙ append_assoc before (turns_line turns) h.0))
