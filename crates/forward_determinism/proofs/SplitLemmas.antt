-- What the splitter sends on its two links, and what that causes on `ext`, is one.
use Rattle.std.proofs.Common.{◌≡◌, true, cond, Option, Some, None, is_some, refl, sym, ap, ◌∙◌}
use Rattle.addr4.specs.Prefixes.{AddressPrefix}
use Rattle.rib_route.specs.Rows.{External}
use Rattle.link_change.specs.Changes.{IsSent}
use Rattle.link_change.specs.Changes.{Change}
use Rattle.rib_split.specs.declared.split.BgpLink.{BgpLink}
use Rattle.rib_split.specs.declared.split.BgpLink.TheVariants.{Ebgp, Ibgp}
use Rattle.rib_split.specs.Splits.{Split}
use Rattle.rib_split.specs.declared.split.Split.TheVariants.{Neither, One, Moved}
use Rattle.rib_split.specs.Splitting.{Parted, first_on, Splits}
use Rattle.rib_split.specs.Laws.{merged_links}
use Rattle.stage_determinism.proofs.OneLemmas.{sent_is_one}
use Rattle.forward_determinism.specs.Laws.{SplitIsOne, CausesAreOne}

-- what goes on to each link
abbrev on : BgpLink → Split → Option (Change External)
on link Neither = None
on Ebgp (One Ebgp change) = Some change
on Ibgp (One Ebgp change) = None
on Ebgp (One Ibgp change) = None
on Ibgp (One Ibgp change) = Some change
on Ebgp (Moved Ebgp add delete) = Some add
on Ibgp (Moved Ebgp add delete) = Some delete
on Ebgp (Moved Ibgp add delete) = Some delete
on Ibgp (Moved Ibgp add delete) = Some add

-- what goes on altogether: of two changes the add first, on the link that had no row
abbrev both : Option (Change External) → Option (Change External) → Split
both None None = Neither
both (Some change) None = One Ebgp change
both None (Some change) = One Ibgp change
both (Some external) (Some internal) = cond (is_some external.before) (Moved Ibgp internal external) (Moved Ebgp external internal)

-- each link is sent what goes on to it
each_is_sent : (old new : Parted) (p : AddressPrefix) (split : Split) (link : BgpLink) → Splits old new p split → IsSent (old link) (new link) p (on link split)
each_is_sent old new p Neither link is = ap (λ (rows : Parted). rows link) is
each_is_sent old new p (One Ebgp change) Ebgp is = is.0
each_is_sent old new p (One Ebgp change) Ibgp is = is.1
each_is_sent old new p (One Ibgp change) Ebgp is = is.1
each_is_sent old new p (One Ibgp change) Ibgp is = is.0
each_is_sent old new p (Moved Ebgp add delete) Ebgp is = is.first.0
each_is_sent old new p (Moved Ebgp add delete) Ibgp is = is.second.0
each_is_sent old new p (Moved Ibgp add delete) Ebgp is = is.second.0
each_is_sent old new p (Moved Ibgp add delete) Ibgp is = is.first.0

-- a row that is none now, and was another, was there
was_there : (after before : Option External) → after ≡ None → (after ≡ before → ⊥) → is_some before ≡ true
was_there after None none differ = absurd (differ none)
was_there after (Some row) none differ = refl

-- what goes on is told by what goes on to each link
is_both : (old new : Parted) (p : AddressPrefix) (split : Split) → Splits old new p split → split ≡ both (on Ebgp split) (on Ibgp split)
is_both old new p Neither is = refl
is_both old new p (One Ebgp change) is = refl
is_both old new p (One Ibgp change) is = refl
is_both old new p (Moved Ebgp add delete) is = ap (λ (row : Option External). cond (is_some row) (Moved Ibgp delete add) (Moved Ebgp add delete)) (sym is.adds)
is_both old new p (Moved Ibgp add delete) is =
    ap (λ b. cond b (Moved Ibgp add delete) (Moved Ebgp delete add)) (sym (was_there delete.after delete.before is.deletes is.second.0.1.1))

pub split_is_one : SplitIsOne
split_is_one old new p q one other first second =
    let same : (link : BgpLink) → on link one ≡ on link other =
    λ link. sent_is_one (old link) (new link) p q (on link one) (on link other) (each_is_sent old new p one link first) (each_is_sent old new q other link second) in
    is_both old new p one first ∙ ap (λ (sent : Option (Change External)). both sent (on Ibgp one)) (same Ebgp) ∙ ap (both (on Ebgp other)) (same Ibgp)
    ∙ sym (is_both old new q other second)

pub causes_are_one : CausesAreOne
causes_are_one p Neither first second first' second' old new is also = (is.0 ∙ sym also.0, is.1 ∙ sym also.1)
causes_are_one p (One link change) first second first' second' old new is also =
    (sent_is_one (merged_links old) (merged_links new) p p first first' is.0 also.0, is.1 ∙ sym also.1)
causes_are_one p (Moved link add delete) first second first' second' old new is also = (
  sent_is_one (merged_links old) (merged_links (first_on link old new)) p p first first' is.0 also.0,
  sent_is_one (merged_links (first_on link old new)) (merged_links new) p p second second' is.1 also.1,
)
