use Rattle.std.proofs.Common.{◌≡◌, ◌+◌, false, is_some, length, map, sym, ap, subst, ◌∙◌}
use Rattle.std.proofs.lemmas.List.{length-map}
use Rattle.canvas_model.specs.Numbered.{nth}
use Rattle.canvas_script.specs.Names.{AreNames, is_used, names_after_use}
use Rattle.canvas_script.proofs.Numbering.{any_seen, name_of, number_at, used_seen, used_again, number_new, are_used}
use Rattle.canvas_script.proofs.names.Names.number.Goals as goal

pub returns-in-Some-clause-number : goal.returns-in-Some-clause-number
returns-in-Some-clause-number c =
    sym (ap (λ names. nth names (c.in-Some.index + 1)) c.self.view_is)
    ∙ number_at name_of c.args.name.now c.self.inside.names.keys c.in-Some.index (sym c.get_index_of.ensures.index ∙ c.in-Some.is)

pub returns-in-Some-clause-used : goal.returns-in-Some-clause-used
returns-in-Some-clause-used c =
    used_again c.args.self.now c.args.name.now
    (sym (ap (λ names. is_used names c.args.name.now) c.self.view_is) ∙ sym (any_seen name_of c.args.name.now c.self.inside.names.keys) ∙ sym c.get_index_of.ensures.found ∙ ap is_some c.in-Some.is)

is_new : (c : goal.In_ok-insert) → is_used c.args.self.now c.args.name.now ≡ false
is_new c =
    sym (ap (λ names. is_used names c.args.name.now) c.self.view_is) ∙ sym (any_seen name_of c.args.name.now c.self.inside.names.keys) ∙ sym c.get_index_of.ensures.found ∙ ap is_some c.in_default.is

after_is : (c : goal.In_ok-insert) → map name_of c.insert.new.self.keys ≡ names_after_use c.args.self.now c.args.name.now
after_is c =
    ap (map name_of) c.in_ok-insert.ensures.keys
    ∙ used_seen name_of c.self.inside.names.keys c.in_ok-name.name
    ∙ ap (names_after_use (map name_of c.self.inside.names.keys)) c.in_ok-name.ensures.items
    ∙ ap (λ names. names_after_use names c.args.name.now) c.self.view_is

pub invariant_of-self-2 : goal.invariant_of-self-2
invariant_of-self-2 c = subst AreNames (sym (after_is c)) (are_used c.args.self.now c.args.name.now (subst AreNames c.self.view_is c.self.invariant) c.requires (is_new c))

pub returns-clause-number : goal.returns-clause-number
returns-clause-number c =
    ap (λ names. nth names (c.len.result + 1)) (after_is c)
    ∙ ap (λ n. nth (names_after_use c.args.self.now c.args.name.now) (n + 1)) (c.len.ensures.len ∙ sym (length-map c.self.inside.names.keys name_of) ∙ ap length c.self.view_is)
    ∙ number_new c.args.self.now c.args.name.now (is_new c)

pub returns-clause-used : goal.returns-clause-used
returns-clause-used c = after_is c
