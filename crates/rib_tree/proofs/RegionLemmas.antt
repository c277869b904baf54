-- What leads the tree on, whatever the other regions have.
use Rattle.std.proofs.Common.{◌≡◌, List, refl, sym, ap, subst}
use Rattle.journal_text.specs.declared.link.Link.{Link}
use Rattle.journal_text.specs.declared.link.Link.TheVariants.{Org, Lost, Low, Dyn, Int}
use Rattle.journal_text.specs.Lines.{Entry}
use Rattle.journal_text.specs.Lines.{Value}
use Rattle.journal_text.specs.Walk.{Links, Leads}
use Rattle.rib_tree.specs.Trees.{Treed, beside_tree, tree_links}
use Rattle.rib_tree.specs.Falls.{LeadsTree}
use Rattle.link_region.specs.declared.regions.Region.TheVariants.{InteriorRoutes}
use Rattle.link_region.specs.Regions.{joined, with_side, LeadsIn}

module _ (t t' : Treed) where
  pub tree_leads : (entries : List (Entry Value)) → LeadsTree t entries t' → LeadsIn InteriorRoutes (tree_links t) entries (tree_links t')
  tree_leads entries leads sides is =
      subst (λ (l : Links Value). Leads (joined sides) entries l) (λ i link. new link i) (subst (λ (l : Links Value). Leads l entries (beside_tree (joined sides) t')) (λ i link. old link i) (leads (joined sides)))
    where
      own : (link : Link) → tree_links t link ≡ sides InteriorRoutes link
      own link = sym (ap (λ (l : Links Value). l link) is)

      old : (link : Link) → beside_tree (joined sides) t link ≡ joined sides link
      old (Org p) = own (Org p)
      old (Lost p n) = own (Lost p n)
      old Low = own Low
      old Dyn = own Dyn
      old Int = own Int
      old other = refl

      new : (link : Link) → beside_tree (joined sides) t' link ≡ joined (with_side sides InteriorRoutes (tree_links t')) link
      new (Org p) = refl
      new (Lost p n) = refl
      new other = refl
