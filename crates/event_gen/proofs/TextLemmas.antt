-- What is left of a text, part by part, and what is left where a piece of it was written.
use Rattle.std.proofs.Common.{◌≡◌, ℕ, zero, suc, ◌-◌, ◌<◌, List, [], ◌∷◌, ◌++◌, codes, append_assoc, append-nil, refl, ap, sym, ◌∙◌, arith}
use Rattle.event_gen.specs.Draws.{next_draws, behind_draws}
use Rattle.event_gen.specs.Events.{event_of}
use Rattle.event_gen.specs.Lines.{opening, event_words, event_line, text_left}
use Rattle.event_gen.specs.declared.drawn.Drawn.{Drawn}
use Rattle.event_gen.specs.declared.drawn.Drawn.TheVariants.{Idle}
use Rattle.event_gen.specs.declared.generator.Part.{Part}
use Rattle.event_gen.specs.declared.generator.Part.TheVariants.{Opening, Events, Over}

-- the opening, as one text
abbrev pub opening_text : List ℕ
opening_text = codes "local 65000 192.0.2.254 192.0.2.254\npeer 1 65001 192.0.2.1 192.0.2.1\npeer 2 65002 192.0.2.2 192.0.2.2\npeer 3 65000 192.0.2.3 192.0.2.3\npeer 4 65001 192.0.2.4 192.0.2.4\nroute add connected 192.0.2.0/24 direct eth0 1\nup 1\nup 2\nup 3\nup 4\n"

-- a line with its end
abbrev pub line_text : Drawn → List ℕ
line_text e = event_line e ++ 10 ∷ []

opened : (n x : ℕ) → text_left Opening n x ≡ opening_text ++ text_left Events n x
unfolding text_left opening
opened n x = refl

closed : (x : ℕ) → text_left Events 0 x ≡ line_text Idle
unfolding text_left event_words
closed x = refl

one_event : (n x : ℕ) → 0 < n → text_left Events n x ≡ line_text (event_of (next_draws x)) ++ text_left Events (n - 1) (behind_draws x)
unfolding text_left
one_event zero x some = absurd (omega arith)
one_event (suc n) x some =
    let fewer : suc n - 1 ≡ n = omega arith in
    ap (λ m. line_text (event_of (next_draws x)) ++ text_left Events m (behind_draws x)) (sym fewer)

-- a piece goes from what is left to what was written
moved : (out piece rest written left : List ℕ) → written ≡ out ++ piece → left ≡ piece ++ rest → written ++ rest ≡ out ++ left
moved out piece rest written left wrote parted = ap (λ w. w ++ rest) wrote ∙ append_assoc out piece rest ∙ ap (λ l. out ++ l) (sym parted)

pub opens : (out written left : List ℕ) (p : Part) (n x : ℕ) → p ≡ Opening → text_left p n x ≡ left → written ≡ out ++ opening_text → written ++ text_left Events n x ≡ out ++ left
opens out written left p n x first is wrote =
    moved out opening_text (text_left Events n x) written left wrote (sym is ∙ ap (λ q. text_left q n x) first ∙ opened n x)

pub closes : (out written left : List ℕ) (p : Part) (n x : ℕ) → p ≡ Events → n ≡ 0 → text_left p n x ≡ left → written ≡ out ++ line_text Idle → written ++ text_left Over n x ≡ out ++ left
unfolding text_left
closes out written left p n x at none is wrote =
    moved out (line_text Idle) [] written left wrote
    (sym is ∙ ap (λ q. text_left q n x) at ∙ ap (λ m. text_left Events m x) none ∙ closed x ∙ sym (append-nil (line_text Idle)))

pub goes_on : (out written left : List ℕ) (p : Part) (n x y : ℕ) (e : Drawn) → p ≡ Events → 0 < n → y ≡ behind_draws x → e ≡ event_of (next_draws x) → text_left p n x ≡ left → written ≡ out ++ line_text e → written ++ text_left p (n - 1) y ≡ out ++ left
goes_on out written left p n x y e at some state event is wrote =
    ap (λ q. written ++ text_left q (n - 1) y) at
    ∙ moved out (line_text e) (text_left Events (n - 1) y) written left wrote
    (sym is ∙ ap (λ q. text_left q n x) at ∙ one_event n x some ∙ sym ((λ i. line_text (event i) ++ text_left Events (n - 1) (state i))))

pub is_over : (left : List ℕ) (p : Part) (n x : ℕ) → p ≡ Over → text_left p n x ≡ left → left ≡ []
unfolding text_left
is_over left p n x at is = sym is ∙ ap (λ q. text_left q n x) at
