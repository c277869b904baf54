-- What `check` says of totals.
use Rattle.std.proofs.Common.{ℕ, ◌^◌, ◌<◌, Bool, true, false, cond, nat_eq, List, [], ◌∷◌, ◌++◌, length, Option, Some, None, codes, refl, sym, subst, arith}
use Rattle.std.specs.List.{AllByRecursion}
use Rattle.std.specs.Fmt.{decimal}
use Rattle.link_change.specs.Rows.{Rows}
use Rattle.bgp_attr.specs.Speakers.{Speaker}
use Rattle.journal_text.specs.Texts.{link_text, link_name}
use Rattle.journal_text.specs.declared.link.Link.{Link}
use Rattle.journal_text.specs.declared.link.Link.TheVariants.{Best, Fib}
use Rattle.journal_text.specs.Lines.{Value}
use Rattle.journal_check.proofs.InkLemmas.{all_append, ink_by}
use Rattle.event_text.specs.declared.declared.DeclaredPeer.{DeclaredPeer}
use Rattle.event_text.specs.Declarations.{Declaration, IsCounted, IsDeclaredBy, IsDeclaration, peer_at}
use Rattle.router_moments.specs.Moments.{Moment, router_links}
use Rattle.replay.specs.Totals.{AreTotals, AreTotalsOf, IsTotal, sent_link, total_links, turns_line}
use Rattle.replay.proofs.SkippedTexts.{IsShortWord, IsSkippedText, skipped_nothing, skipped_both, total_skipped, word_by, number_word, peer_word, session_word}

-- ---- the links whose rows are counted have short names

abbrev IsShortLink : Link → Type 0
IsShortLink link = IsShortWord (link_text false link)

sent_short : (k : ℕ) (peers : List DeclaredPeer) → k < 2 ^ 32 → IsCounted peers → AllByRecursion IsShortLink (sent_link k (peer_at k peers))
sent_short k [] low counted = tt
sent_short k (p ∷ peers) low counted = by (nat_eq p.words.number k) (sent_short k peers low counted.2)
  where
    by : (b : Bool) → AllByRecursion IsShortLink (sent_link k (peer_at k peers)) → AllByRecursion IsShortLink (sent_link k (cond b (Some p) (peer_at k peers)))
    by true later = (session_word k p.session low (omega (arith, counted.0)), tt)
    by false later = later

links_short : (peers : List DeclaredPeer) → IsCounted peers → AllByRecursion IsShortLink (total_links peers)
unfolding link_text link_name
links_short peers counted =
    let one = sent_short 1 peers (omega arith) counted in
    let two = sent_short 2 peers (omega arith) counted in
    let three = sent_short 3 peers (omega arith) counted in
    let four = sent_short 4 peers (omega arith) counted in (
      peer_word 1 (omega arith),
      (
        peer_word 2 (omega arith),
        (
          peer_word 3 (omega arith),
          (
            peer_word 4 (omega arith),
            (
              word_by (link_text false Best) (ink_by (link_text false Best) refl) refl,
              (
                word_by (link_text false Fib) (ink_by (link_text false Fib) refl) refl,
                all_append IsShortLink (sent_link 1 (peer_at 1 peers)) (sent_link 2 (peer_at 2 peers) ++ (sent_link 3 (peer_at 3 peers) ++ sent_link 4 (peer_at 4 peers))) one
                    (all_append IsShortLink (sent_link 2 (peer_at 2 peers)) (sent_link 3 (peer_at 3 peers) ++ sent_link 4 (peer_at 4 peers)) two
                    (all_append IsShortLink (sent_link 3 (peer_at 3 peers)) (sent_link 4 (peer_at 4 peers)) three four)),
              ),
            ),
          ),
        ),
      ),
    )

-- ---- totals are whole lines that say nothing of links

link_skipped : (link : Link) (rows : Option (Rows Value)) (bytes : List ℕ) → IsShortLink link → IsTotal link rows bytes → IsSkippedText bytes
link_skipped link None bytes short is = subst IsSkippedText (sym is) skipped_nothing
link_skipped link (Some rows) bytes short is = subst IsSkippedText (sym is.3) (total_skipped (link_text false link) (decimal (length is.0)) short (number_word (length is.0) is.2))

each_skipped : (m : Moment) (links : List Link) (bytes : List ℕ) → AllByRecursion IsShortLink links → AreTotalsOf m links bytes → IsSkippedText bytes
each_skipped m [] bytes short is = subst IsSkippedText (sym is) skipped_nothing
each_skipped m (link ∷ links) bytes short is = subst IsSkippedText (sym is.4) (skipped_both is.0 is.1 (link_skipped link (router_links m link) is.0 short.0 is.2) (each_skipped m links is.1 short.1 is.3))

turns_word : IsShortWord (codes "turns")
turns_word = word_by (codes "turns") (ink_by (codes "turns") refl) refl

pub totals_skipped : (m : Moment) (turns : ℕ) (bytes : List ℕ) → IsCounted m.declared.peers → AreTotals m turns bytes → IsSkippedText bytes
totals_skipped m turns bytes counted is =
    subst IsSkippedText (sym is.3)
    (skipped_both (turns_line turns) is.0 (total_skipped (codes "turns") (decimal turns) turns_word (number_word turns is.2)) (each_skipped m (total_links m.declared.peers) is.0 (links_short m.declared.peers counted) is.1))

-- ---- the sessions of declared peers are counted
pub counted : (d : Declaration) → IsDeclaration d → IsCounted d.peers
counted d declared = by d.speaker d.peers declared
  where
    by : (s : Option Speaker) (peers : List DeclaredPeer) → IsDeclaredBy d.v6 d.profile s peers → IsCounted peers
    by None peers none = subst IsCounted (sym none) tt
    by (Some me) peers are = are.counted
