-- The headline, from the laws of the model and those of trees.
use Rattle.std.proofs.Common.{◌≡◌, ℕ, ◌≤◌, ◌<◌, List, refl, sym, ◌∙◌, ap, subst, arith}
use Rattle.std.specs.Prelude.{◌≢◌, Some}
use Rattle.canvas_model.specs.declared.ObjId.{ObjId}
use Rattle.canvas_model.specs.Ids.{root}
use Rattle.canvas_model.specs.Document.{Doc, Place, IsDocument, place_of}
use Rattle.canvas_model.specs.Chain.{Below, itself, through, IsCycle}
use Rattle.canvas_model.specs.Children.{parent_of}
use Rattle.canvas_model.specs.Overlay.{over}
use Rattle.canvas_model.specs.State.{State, IsSound}
use Rattle.canvas_model.specs.Log.{at_version}
use Rattle.canvas_model.specs.World.{state}
use Rattle.canvas_model.specs.Good.{HasClaims}
use Rattle.canvas_model.specs.Laws.{EachVersionIsSound, AfterEachRun, NodesAgree, HasNoCycle, KeepsAcknowledged}
use Rattle.canvas_tree.specs.Trees.{IsTreeOf}
use Rattle.canvas_tree.specs.Chains.{LeadTo}
use Rattle.canvas_tree.specs.Laws.{EachHasTree, NoneHasTwo, ChainsAreBelow}
use Rattle.canvas_tree.specs.Headline.{HaveOneTree, HoldOneDocument}
use Rattle.canvas_model.proofs.Children.{child_place}
use Rattle.canvas_model.proofs.Trees.{document_of}
use Rattle.canvas_tree.proofs.Rows.{child_live}

-- ---- the headline

module _ (states : EachVersionIsSound) (claims : AfterEachRun HasClaims) (agree : AfterEachRun NodesAgree) (cycles : AfterEachRun HasNoCycle) (kept : AfterEachRun KeepsAcknowledged) (some : EachHasTree) (one : NoneHasTwo) (chains : ChainsAreBelow) where
  trees_agree : (d e f : Doc) → IsDocument d → e ≡ d → f ≡ d → HaveOneTree e f
  trees_agree d e f is a b =
      let t = some d is in
      record {
        tree = t.0;
        fits = subst (λ x. IsTreeOf x t.0) (sym a) t.1;
        fits_second = subst (λ x. IsTreeOf x t.0) (sym b) t.1;
        only = λ u h. one d u t.0 (subst (λ x. IsTreeOf x u) a h) t.1;
        only_of_second = λ u h. one d u t.0 (subst (λ x. IsTreeOf x u) b h) t.1;
      }

  no_way_back : (d : Doc) → ((q : ObjId) → IsCycle d q → ⊥) → (q p : ObjId) (chain : List ObjId) → parent_of d q ≡ Some p → LeadTo d p q chain → ⊥
  no_way_back d none q p chain e lead =
      let s = child_place d q p e in
      none q (s.0, s.1, subst (λ x. Below d x q) (sym s.2) ((chains d p q).1 (child_live d q p e, chain, lead)))

  pub headline : AfterEachRun HoldOneDocument
  headline events w run =
      let c = claims events w run in
      record {
        views = λ k n is. (c.views k n is).view;
        waiting = c.waiting;
        equal = λ k j n m h. agree events w run k j n m h.first h.second h.version h.nothing_left h.nothing_left_of_second;
        one_tree = λ k j n m h.
            let shown : n.client.view ≡ (at_version w.log n.client.version).doc = (c.views k n h.first).view ∙ ap (over (at_version w.log n.client.version).doc) h.nothing_left in
            let same : m.client.view ≡ n.client.view = sym (agree events w run k j n m h.first h.second h.version h.nothing_left h.nothing_left_of_second) in
            trees_agree (at_version w.log n.client.version).doc n.client.view m.client.view (document_of _ (states w.log c.legal.0 n.client.version)) shown (same ∙ shown);
        no_cycle = no_way_back (state w).doc (cycles events w run);
        once = kept events w run;
      }
