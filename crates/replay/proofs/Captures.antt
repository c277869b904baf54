-- No line of what a capture gives is refused.
use Rattle.std.proofs.Common.{not, ◌≡◌, ◌⊎◌, ℕ, ◌+◌, ◌≤◌, ◌&&◌, Bool, true, false, cond, List, [], ◌∷◌, ◌++◌, map, length, Option, Some, None, refl, sym, ap, ◌∙◌, inl, inr, arith}
use Rattle.std.specs.List.{AllByRecursion, flat_map}
use Rattle.std.proofs.lemmas.List.Concat.{flat_map-append}
use Rattle.event_text.specs.FileLaws.{Ipv4LinesStay, Ipv4LinesMayStay}
use Rattle.event_text.specs.declared.declared.DeclaredPeer.{DeclaredPeer}
use Rattle.event_text.specs.Declarations.{Declaration, no_declaration, peer_at, with_session, without_session}
use Rattle.live_state.specs.Declared.{declared_after, declared_up, declared_down, declared_heard}
use Rattle.live_state.specs.Messages.{ends_session}
use Rattle.mrt_reader.specs.Records.{Record}
use Rattle.mrt_reader.specs.Lines.{Line, line_text, text_of}
use Rattle.mrt_reader.specs.Sessions.{nothing_written, after_all, records_lines, closing}
use Rattle.mrt_reader.specs.Files.{IsSound, IsTextOf}
use Rattle.mrt_reader.specs.Order.{HasBytes, LinesAreFew, file_lines}
use Rattle.capture_laws.specs.Readings.{line_bytes, event_of_line, Declares, AreAccepted, LinesAreAccepted}
use Rattle.check_run.specs.Lines.{lines_of, ended}
use Rattle.replay.specs.Judging.{verdict_from}
use Rattle.replay.specs.Answers.{CapturesAreAccepted}
use Rattle.replay.proofs.Accepted.{AreClean, clean_line, clean_lines, accepts_then}

-- ---- what the events make of the declarations

first_or : (b : Bool) (x y : Declaration) → (cond b x y ≡ x) ⊎ (cond b x y ≡ y)
first_or true x y = inl refl
first_or false x y = inr refl

second_or : (b : Bool) (x y : Declaration) → (cond b x y ≡ y) ⊎ (cond b x y ≡ x)
second_or true x y = inr refl
second_or false x y = inl refl

ups : (d : Declaration) (k : ℕ) (o : Option DeclaredPeer) → (declared_up d k o ≡ d) ⊎ (declared_up d k o ≡ with_session d k)
ups d k None = inl refl
ups d k (Some p) = first_or p.up d (with_session d k)

downs : (d : Declaration) (k : ℕ) (o : Option DeclaredPeer) → (declared_down d k o ≡ d) ⊎ (declared_down d k o ≡ without_session d k)
downs d k None = inl refl
downs d k (Some p) = second_or p.up (without_session d k) d

messages : (d : Declaration) (k : ℕ) (octets : List ℕ) (o : Option DeclaredPeer) → (declared_heard d k octets o ≡ d) ⊎ (declared_heard d k octets o ≡ without_session d k)
messages d k octets None = inl refl
messages d k octets (Some p) = second_or (p.up && ends_session d.profile (not p.words.internal) octets) (without_session d k) d

declares : Declares declared_after
declares = record {
  as4 = λ d. refl;
  local = λ d s. refl;
  peer = λ d k s. refl;
  up = λ d k. ups d k (peer_at k d.peers);
  down = λ d k. downs d k (peer_at k d.peers);
  bgp = λ d k octets. messages d k octets (peer_at k d.peers);
  idle = λ d. refl;
}

-- ---- lines that are accepted

all_clean : (d : Declaration) (ls : List Line) → AreAccepted declared_after d ls → AreClean (map line_bytes ls)
all_clean d [] h = tt
all_clean d (l ∷ ls) h = (clean_line d.profile (line_bytes l) (event_of_line l) h.0, all_clean (declared_after d (event_of_line l)) ls h.2)

all_judged : Ipv4LinesStay → Ipv4LinesMayStay → (n : ℕ) (d : Declaration) (ls : List Line) → n + length ls ≤ 4294967296 → AreAccepted declared_after d ls → verdict_from n d (map line_bytes ls) ≡ None
all_judged reads stays n d [] few h = refl
all_judged reads stays n d (l ∷ ls) few h =
    accepts_then reads stays n d (line_bytes l) (map line_bytes ls) (event_of_line l) (omega (arith, few)) h.0 h.1 (all_judged reads stays (n + 1) (declared_after d (event_of_line l)) ls (omega (arith, few)) h.2)

text_ended : (ls : List Line) → text_of ls ≡ flat_map ended (map line_bytes ls)
text_ended [] = refl
text_ended (l ∷ ls) = ap (λ t. line_text l ++ t) (text_ended ls)

-- ---- the text of a file

all_bytes : (as4 : Bool) (rs : List Record) → AllByRecursion (IsSound as4) rs → AllByRecursion HasBytes rs
all_bytes as4 [] each = tt
all_bytes as4 (r ∷ rs) each = (each.0.whole.bytes.1, all_bytes as4 rs each.1)

whole_text : (as4 : Bool) (file text : List ℕ) → (is : IsTextOf as4 file text None) → text ≡ text_of (file_lines as4 is.read.records)
whole_text as4 file text is =
    let ls = records_lines as4 nothing_written is.read.records in
    is.said ∙ ((λ i. is.read.lines i ++ text_of (closing (is.read.behind i))) ∙ sym (flat_map-append line_text ls (closing (after_all nothing_written ls))))

pub captures_accepted : Ipv4LinesStay → Ipv4LinesMayStay → LinesAreAccepted → LinesAreFew → CapturesAreAccepted
captures_accepted reads stays accepted few as4 file text is =
    let rs = is.read.records in
    let ls = file_lines as4 rs in
    let all : AreAccepted declared_after (no_declaration false) ls = accepted declared_after declares as4 rs (all_bytes as4 rs is.read.each) in
    let short : 1 + length ls ≤ 4294967296 = omega (arith, few as4 rs, is.read.count, is.read.few) in
    ap (verdict_from 1 (no_declaration false)) (ap lines_of (whole_text as4 file text is ∙ text_ended ls) ∙ clean_lines (map line_bytes ls) (all_clean (no_declaration false) ls all))
    ∙ all_judged reads stays 1 (no_declaration false) ls short all
