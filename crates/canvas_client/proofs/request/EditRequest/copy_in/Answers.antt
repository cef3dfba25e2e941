use Rattle.std.proofs.Common.{sym, ap, ◌∙◌}
use Rattle.canvas_model.specs.Local.{Clear, Set}
use Rattle.canvas_client.specs.Asked.{seen_edit_request}
use Rattle.canvas_client.proofs.request.EditRequest.copy_in.Goals as goal

pub returns-in-Create : goal.returns-in-Create
returns-in-Create g c = c.create.ensures ∙ sym (ap seen_edit_request c.in-Create.is) ∙ c.self.view_is

pub returns-in_ok-name-in-Clear : goal.returns-in_ok-name-in-Clear
returns-in_ok-name-in-Clear g c = c.clear.ensures ∙ ap (Clear c.in-Clear.id) c.in_ok-name-in-Clear.ensures ∙ sym (ap seen_edit_request c.in-Clear.is) ∙ c.self.view_is

pub returns-in-Move : goal.returns-in-Move
returns-in-Move g c = c.move_to.ensures ∙ sym (ap seen_edit_request c.in-Move.is) ∙ c.self.view_is

pub returns-in-Delete : goal.returns-in-Delete
returns-in-Delete g c = c.delete.ensures ∙ sym (ap seen_edit_request c.in-Delete.is) ∙ c.self.view_is

pub returns-in_ok-value-in-Set : goal.returns-in_ok-value-in-Set
returns-in_ok-value-in-Set g c =
    ap (λ name. Set c.in-Set.id name c.in_ok-value-in-Set.value) c.in_ok-name-in-Set.ensures ∙ ap (Set c.in-Set.id c.in-Set.name) c.in_ok-value-in-Set.ensures ∙ sym (ap seen_edit_request c.in-Set.is)
    ∙ c.self.view_is
