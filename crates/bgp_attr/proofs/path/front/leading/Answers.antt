use Rattle.std.proofs.Common.{◌≡◌, ◌≤◌, ◌<◌, false, length, get_or, ap, ◌∙◌, arith}
use denote.Enum.Bare.{sameb}
use Rattle.bgp_attr.specs.contracts.path.SegmentKind.{the_type}
use Rattle.bgp_attr.specs.declared.path.SegmentKind.TheVariants.{Sequence}
use Rattle.bgp_attr.specs.Words.{count_in, kind_in}
use Rattle.bgp_attr.proofs.FrontLaws.{stands_alone}
use Rattle.bgp_attr.proofs.path.front.leading.Goals as goal
use Rattle.bgp_attr.proofs.path.front.leading.Goals.{in_default, in-len1-up+else-eq, else-eq-via-then-eq+else-count-from, else-eq-via-else-eq}

full : (c : goal.Joined-words-lt1) → 0 < length c.args.words.now → kind_in (get_or c.args.words.now 0 0) ≡ Sequence → 255 ≤ count_in (get_or c.args.words.now 0 0)
full c some is =
    elim c.if-words-lt1.branch [
      | in_default w ↦ absurd (omega (arith, some, w.in_default.len_below))
      | in-len1-up+else-eq w ↦
          elim w.else-eq.branch [
            | else-eq-via-then-eq+else-count-from w' ↦ omega (arith, w'.if-count-from.false, w'.from.ensures, w.count_in-count.ensures)
            | else-eq-via-else-eq w' ↦ absurd (let e : false ≡ sameb the_type Sequence Sequence = w'.if-eq.ensures ∙ ap (λ k. sameb the_type k Sequence) (w.kind_in.ensures ∙ is) in cc)
          ]
    ]

pub returns-clause-joined : goal.returns-clause-joined
returns-clause-joined c = λ asn. stands_alone c.args.words.now asn c.requires (full c)
