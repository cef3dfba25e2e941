-- One object of a client's view, and its children, as text.
use Rattle.std.specs.Prelude.{◌≡◌, ℕ, List, Some}
use Rattle.std.specs.FinMap as map
use Rattle.canvas_model.specs.declared.ObjId.{ObjId}
use Rattle.canvas_model.specs.Children.{AreChildren}
use Rattle.canvas_model.specs.Client.{Client}
use Rattle.canvas_model.specs.Document.{Object}
use Rattle.canvas_wire.specs.Text.{EncodesRow}
use Rattle.canvas_embed.specs.Ids.{EncodesIds}

-- the bytes are the text of the object that the client's view has under this id
pub record IsObjectText (client : Client) (id : ObjId) (bytes : List ℕ) : Type 0 where
  pub object : Object
  pub shown : map.get client.view id ≡ Some object
  pub text : EncodesRow bytes (id, object)

-- the bytes are the text of the object's children in the client's view, in order
pub record IsChildrenText (client : Client) (id : ObjId) (bytes : List ℕ) : Type 0 where
  pub ids : List ObjId
  pub children : AreChildren client.view id ids
  pub text : EncodesIds bytes ids
