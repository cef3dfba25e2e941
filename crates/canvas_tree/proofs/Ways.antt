-- Chains of parents: the same from below and from above, and what the reads of a tree say of them.
use Rattle.std.proofs.Common.{◌≡◌, ◌↔◌, List, [], ◌∷◌, ◌++◌, refl, sym, ◌∙◌, ap, subst, inl, inr}
use Rattle.std.specs.Prelude.{Option, None, Some, true, false, cond, IsTrue}
use Rattle.std.specs.Option.{option_map, option_or}
use Rattle.canvas_model.specs.declared.ObjId.{ObjId}
use Rattle.canvas_model.specs.Ids.{root, same_id}
use Rattle.canvas_model.specs.Document.{Doc, live}
use Rattle.canvas_model.specs.Chain.{Below, itself, through}
use Rattle.canvas_model.specs.Children.{AreChildren, parent_of}
use Rattle.canvas_model.proofs.Ids.{same_id_true, id_itself}
use Rattle.canvas_model.proofs.Trees.{below_trans, below_end}
use Rattle.canvas_tree.specs.Shapes.{Label, Forest, none, tree, Branch, tops, forest_ids, branch_ids}
use Rattle.canvas_tree.specs.Trees.{AreVertices, IsTreeAt, IsTreeOf}
use Rattle.canvas_tree.specs.Chains.{LeadTo, IsPath}
use Rattle.canvas_tree.specs.Reads.{found_in, found, path_in, path}
use Rattle.canvas_tree.specs.Laws.{IsFound}
use Rattle.canvas_tree.proofs.Members.{IsIn, in_either}
use Rattle.canvas_tree.proofs.Rows.{child_live, child_below}
use Rattle.canvas_tree.proofs.Stands.{child_of, below_stands}

-- ---- from below and from above

lead_more : (d : Doc) (q p o : ObjId) (cs : List ObjId) → LeadTo d p o cs → parent_of d q ≡ Some p → LeadTo d q o (cs ++ q ∷ [])
lead_more d q p o [] h e = (e ∙ ap (λ v. Some v) (sym h), refl)
lead_more d q p o (c ∷ cs) h e = (h.0, lead_more d q p c cs h.1 e)

lead_of : {d : Doc} {q o : ObjId} → Below d q o → (cs : List ObjId) × LeadTo d q o cs
lead_of (itself h) = ([], refl)
lead_of {d} {q} {o} (through place is up) = let s = lead_of up in (s.0 ++ q ∷ [], lead_more d q place.parent o s.0 s.1 (ap (option_map (λ p. p.parent)) is))

below_lead : (d : Doc) (q o : ObjId) (cs : List ObjId) → live d o ≡ true → LeadTo d q o cs → Below d q o
below_lead d q o [] a h = subst (λ v. Below d v o) h (itself a)
below_lead d q o (c ∷ cs) a h = below_trans (below_lead d q c cs (child_live d c o h.0) h.1) (child_below d c o o h.0 (itself a))

pub chains_below : (d : Doc) (q o : ObjId) → Below d q o ↔ (IsTrue (live d o) × (cs : List ObjId) × LeadTo d q o cs)
chains_below d q o = (λ b. let s = lead_of b in (below_end b, s.0, s.1), λ s. below_lead d q o s.1 s.0 s.2)

-- ---- the path to an object is its chain

record Down (d : Doc) (q : ObjId) (f : Forest) (ps : List ObjId) : Type 0 where
  first : ObjId
  rest : List ObjId
  is : ps ≡ first ∷ rest
  among : IsIn first (tops f)
  leads : LeadTo d q first rest

put_before : (d : Doc) (q : ObjId) (l : Label) (k r : Forest) (o : Option (List ObjId)) (ps : List ObjId) → AreChildren d l.id (tops k) → ((qs : List ObjId) → o ≡ Some qs → Down d q k qs) → option_map (λ p. l.id ∷ p) o ≡ Some ps → Down d q (tree l k r) ps
put_before d q l k r None ps a h e = absurd (let f : None ≡ Some ps = e in cc f)
put_before d q l k r (Some qs) ps a h e =
    let s = h qs refl in
    let w : ps ≡ l.id ∷ qs = cc e in
    record { first = l.id; rest = s.first ∷ s.rest; is = w ∙ ap (λ v. l.id ∷ v) s.is; among = inl refl; leads = (child_of d l.id (tops k) a s.first s.among, s.leads) }

either : {X : Type 0} (P : X → Type 0) (a b : Option X) (x : X) → (a ≡ Some x → P x) → (b ≡ Some x → P x) → option_or a b ≡ Some x → P x
either P None b x h k e = k e
either P (Some y) b x h k e = h e

path_leads : (d : Doc) (q : ObjId) (f : Forest) (ps : List ObjId) → AreVertices d f → path_in q f ≡ Some ps → Down d q f ps
path_leads d q none ps g e = absurd (let f : None ≡ Some ps = e in cc f)
path_leads d q (tree l k r) ps g e =
    (elim (same_id l.id q) as (λ b. same_id l.id q ≡ b → cond b (Some (l.id ∷ [])) (option_or (option_map (λ p. l.id ∷ p) (path_in q k)) (path_in q r)) ≡ Some ps → Down d q (tree l k r) ps) [
      | true ↦ λ s f. let w : ps ≡ l.id ∷ [] = cc f in record { first = l.id; rest = []; is = w; among = inl refl; leads = same_id_true l.id q s }
      | false ↦ λ s f. either (Down d q (tree l k r)) (option_map (λ p. l.id ∷ p) (path_in q k)) (path_in q r) ps
          (put_before d q l k r (path_in q k) ps g.0.children (λ qs w. path_leads d q k qs g.1 w))
          (λ w. let s = path_leads d q r ps g.2 w in record { first = s.first; rest = s.rest; is = s.is; among = inr s.among; leads = s.leads })
          f
    ]) refl e

path_of_tree : (d : Doc) (t : Branch) (q : ObjId) (ps : List ObjId) → IsTreeOf d t → path q t ≡ Some ps → (cs : List ObjId) × (ps ≡ root ∷ cs) × LeadTo d q root cs
path_of_tree d t q ps o e =
    (elim (same_id t.label.id q) as (λ b. same_id t.label.id q ≡ b → cond b (Some (t.label.id ∷ [])) (option_map (λ p. t.label.id ∷ p) (path_in q t.below)) ≡ Some ps → (cs : List ObjId) × (ps ≡ root ∷ cs) × LeadTo d q root cs) [
      | true ↦ λ s f. let w : ps ≡ t.label.id ∷ [] = cc f in ([], w ∙ ap (λ v. v ∷ []) o.at, sym o.at ∙ same_id_true t.label.id q s)
      | false ↦ λ s f.
          let w = put_before d q t.label t.below none (path_in q t.below) ps o.top.children (λ qs w. path_leads d q t.below qs o.below w) f in
          elim w.among [
            | inl m ↦ (w.rest, w.is ∙ ap (λ v. v ∷ w.rest) (m ∙ o.at), subst (λ v. LeadTo d q v w.rest) (m ∙ o.at) w.leads)
            | inr k ↦ absurd k
          ]
    ]) refl e

none_both : {X : Type 0} (a b : Option X) → option_or a b ≡ None → (a ≡ None) × (b ≡ None)
none_both None b e = (refl, e)
none_both (Some x) b e = absurd (let f : Some x ≡ None = e in cc f)

none_mapped : {X Y : Type 0} (f : X → Y) (o : Option X) → option_map f o ≡ None → o ≡ None
none_mapped f None e = refl
none_mapped f (Some x) e = absurd (let g : Some (f x) ≡ None = e in cc g)

-- ids that are the same by test
same_here : (a q : ObjId) → q ≡ a → same_id a q ≡ true
same_here a q e = ap (same_id a) e ∙ id_itself a

no_path_in : (q : ObjId) (f : Forest) → path_in q f ≡ None → IsIn q (forest_ids f) → ⊥
no_path_in q none e h = h
no_path_in q (tree l k r) e h =
    (elim (same_id l.id q) as (λ b. same_id l.id q ≡ b → cond b (Some (l.id ∷ [])) (option_or (option_map (λ p. l.id ∷ p) (path_in q k)) (path_in q r)) ≡ None → ⊥) [
      | true ↦ λ s f. let g : Some (l.id ∷ []) ≡ None = f in cc g
      | false ↦ λ s f.
          let n = none_both (option_map (λ p. l.id ∷ p) (path_in q k)) (path_in q r) f in
          elim h [
            | inl w ↦ let y = same_here l.id q w in let z : true ≡ false = sym y ∙ s in cc z
            | inr m ↦ elim (in_either q (forest_ids k) (forest_ids r) m) [ inl u ↦ no_path_in q k (none_mapped (λ p. l.id ∷ p) (path_in q k) n.0) u | inr u ↦ no_path_in q r n.1 u ]
          ]
    ]) refl e

no_path : (q : ObjId) (t : Branch) → path q t ≡ None → IsIn q (branch_ids t) → ⊥
no_path q t e h =
    (elim (same_id t.label.id q) as (λ b. same_id t.label.id q ≡ b → cond b (Some (t.label.id ∷ [])) (option_map (λ p. t.label.id ∷ p) (path_in q t.below)) ≡ None → ⊥) [
      | true ↦ λ s f. let g : Some (t.label.id ∷ []) ≡ None = f in cc g
      | false ↦ λ s f. elim h [
        | inl w ↦ let y = same_here t.label.id q w in let z : true ≡ false = sym y ∙ s in cc z
        | inr m ↦ no_path_in q t.below (none_mapped (λ p. t.label.id ∷ p) (path_in q t.below) f) m
      ]
    ]) refl e

pub paths_are_chains : (d : Doc) (t : Branch) → IsTreeOf d t → (q : ObjId) → IsPath d q (path q t)
paths_are_chains d t h q = go (path q t) refl
  where
    go : (o : Option (List ObjId)) → path q t ≡ o → IsPath d q o
    go None e = λ b. no_path q t e (below_stands d t q root h b)
    go (Some ps) e = path_of_tree d t q ps h e

-- ---- the tree found at an object is the one at it

found_at : (d : Doc) (q : ObjId) (f : Forest) (t : Branch) → AreVertices d f → found_in q f ≡ Some t → IsTreeAt d q t
found_at d q none t g e = absurd (let f : None ≡ Some t = e in cc f)
found_at d q (tree l k r) t g e =
    let here : Branch = record { label = l; below = k } in
    (elim (same_id l.id q) as (λ b. same_id l.id q ≡ b → cond b (Some here) (option_or (found_in q k) (found_in q r)) ≡ Some t → IsTreeAt d q t) [
      | true ↦ λ s f. let w : here ≡ t = cc f in subst (IsTreeAt d q) w (record { at = same_id_true l.id q s; top = g.0; below = g.1 })
      | false ↦ λ s f. either (IsTreeAt d q) (found_in q k) (found_in q r) t (found_at d q k t g.1) (found_at d q r t g.2) f
    ]) refl e

found_of_tree : (d : Doc) (t u : Branch) (q : ObjId) → IsTreeOf d t → found q t ≡ Some u → IsTreeAt d q u
found_of_tree d t u q h e =
    (elim (same_id t.label.id q) as (λ b. same_id t.label.id q ≡ b → cond b (Some t) (found_in q t.below) ≡ Some u → IsTreeAt d q u) [
      | true ↦ λ s f. let w : t ≡ u = cc f in subst (IsTreeAt d q) w (record { at = same_id_true t.label.id q s; top = h.top; below = h.below })
      | false ↦ λ s f. found_at d q t.below u h.below f
    ]) refl e

none_in : (q : ObjId) (f : Forest) → found_in q f ≡ None → IsIn q (forest_ids f) → ⊥
none_in q none e h = h
none_in q (tree l k r) e h =
    let here : Branch = record { label = l; below = k } in
    (elim (same_id l.id q) as (λ b. same_id l.id q ≡ b → cond b (Some here) (option_or (found_in q k) (found_in q r)) ≡ None → ⊥) [
      | true ↦ λ s f. let g : Some here ≡ None = f in cc g
      | false ↦ λ s f.
          let n = none_both (found_in q k) (found_in q r) f in
          elim h [
            | inl w ↦ let y = same_here l.id q w in let z : true ≡ false = sym y ∙ s in cc z
            | inr m ↦ elim (in_either q (forest_ids k) (forest_ids r) m) [ inl u ↦ none_in q k n.0 u | inr u ↦ none_in q r n.1 u ]
          ]
    ]) refl e

none_found : (q : ObjId) (t : Branch) → found q t ≡ None → IsIn q (branch_ids t) → ⊥
none_found q t e h =
    (elim (same_id t.label.id q) as (λ b. same_id t.label.id q ≡ b → cond b (Some t) (found_in q t.below) ≡ None → ⊥) [
      | true ↦ λ s f. let g : Some t ≡ None = f in cc g
      | false ↦ λ s f. elim h [
        | inl w ↦ let y = same_here t.label.id q w in let z : true ≡ false = sym y ∙ s in cc z
        | inr m ↦ none_in q t.below f m
      ]
    ]) refl e

pub found_are_trees : (d : Doc) (t : Branch) → IsTreeOf d t → (q : ObjId) → IsFound d q (found q t)
found_are_trees d t h q = go (found q t) refl
  where
    go : (o : Option Branch) → found q t ≡ o → IsFound d q o
    go None e = λ b. none_found q t e (below_stands d t q root h b)
    go (Some u) e = found_of_tree d t u q h e
