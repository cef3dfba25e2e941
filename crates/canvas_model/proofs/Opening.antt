-- The opening state is sound, and the empty world good.
use Rattle.std.proofs.Common.{◌≡◌, ◌⊎◌, refl, ap, sym, ◌∙◌, subst, arith}
use mathlib.Core.Logic.{inl, inr}
use Rattle.std.specs.Prelude.{Bool, true, false, cond, Some, None, is_some}
use Rattle.std.specs.Option.{option_map, option_and_then}
use Rattle.std.specs.FinMap.{get-insert, get-empty}
use Rattle.std.specs.FinMap as map
use Rattle.canvas_model.specs.declared.ObjId.{ObjId}
use Rattle.canvas_model.specs.Ids.{root, id_cmp, same_id}
use Rattle.canvas_model.specs.Document.{Object, blank, live, place_of, new_object}
use Rattle.canvas_model.specs.declared.Kind.TheVariants.{Document}
use Rattle.canvas_model.specs.Chain.{Below, itself}
use Rattle.canvas_model.specs.State.{opening, IsSound}
use Rattle.canvas_model.specs.World.{empty}
use Rattle.canvas_model.specs.Good.{IsGood}
use Rattle.canvas_model.proofs.Lists.{nth-none}
use Rattle.canvas_model.proofs.Ids.{id_total, same_id_true, id_itself}

pub get-blank : (q : ObjId) → map.get blank q ≡ cond (same_id q root) (Some (new_object Document None)) None
get-blank q = get-insert id_total map.empty root (new_object Document None) q ∙ ap (λ x. cond (same_id q root) (Some (new_object Document None)) x) (get-empty id_cmp q)

pub blank_at : (q : ObjId) → ((q ≡ root) × (map.get blank q ≡ Some (new_object Document None))) ⊎ (map.get blank q ≡ None)
blank_at q = go (same_id q root) refl
  where
    go : (b : Bool) → same_id q root ≡ b → ((q ≡ root) × (map.get blank q ≡ Some (new_object Document None))) ⊎ (map.get blank q ≡ None)
    go true e = inl (same_id_true q root e, get-blank q ∙ ap (λ b. cond b (Some (new_object Document None)) None) e)
    go false e = inr (get-blank q ∙ ap (λ b. cond b (Some (new_object Document None)) None) e)

pub no_place : (q : ObjId) → place_of blank q ≡ None
no_place q = go (blank_at q)
  where
    go : ((q ≡ root) × (map.get blank q ≡ Some (new_object Document None))) ⊎ (map.get blank q ≡ None) → place_of blank q ≡ None
    go (inl h) = ap (λ x. option_and_then (λ (o : Object). o.place) x) h.1
    go (inr h) = ap (λ x. option_and_then (λ (o : Object). o.place) x) h

pub only_root : (q : ObjId) → live blank q ≡ true → q ≡ root
only_root q h = go (blank_at q)
  where
    go : ((q ≡ root) × (map.get blank q ≡ Some (new_object Document None))) ⊎ (map.get blank q ≡ None) → q ≡ root
    go (inl a) = a.0
    go (inr a) = absurd (let e = ap is_some a in cc)

pub opening_sound : IsSound opening
opening_sound = record {
  in_tree = λ q h. subst (λ x. Below blank x root) (sym (only_root q h)) (itself (subst (λ x. live blank x ≡ true) (only_root q h) h));
  at_root = (ap (λ x. option_map (λ (o : Object). o.kind) x) (get-blank root ∙ ap (λ b. cond b (Some (new_object Document None)) None) (id_itself root)), no_place root);
  kinds = λ q place h k p a b. absurd (let e = no_place q in cc);
  apart = λ q r place h g. absurd (let e = no_place q in cc);
  counters = λ q h other. absurd (other (only_root q h));
  few = omega arith;
}

pub empty_good : IsGood empty
empty_good = record {
  bounds = record { told = omega arith; shown = omega arith; kept = omega arith };
  askers = refl;
  legal = record { fits = tt; short = omega arith };
  sound = opening_sound;
  nodes = λ k n is. absurd (nth-none k n is);
  letters = λ m letter is. absurd (nth-none m letter is);
  owned = λ v e change is what. absurd (nth-none v e is);
}
