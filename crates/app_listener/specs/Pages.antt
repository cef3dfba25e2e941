-- What a page holds.
use Rattle.std.specs.Prelude.{ℕ, List, Option}
use Rattle.net_http.specs.declared.asked.PageFile.{PageFile}
use Rattle.net_http.specs.declared.asked.PageFile.TheVariants as file
use Rattle.app_listener.specs.declared.page.Page.{Page}

-- the bytes of this file, if the page has it
abbrev pub held : Page → PageFile → Option (List ℕ)
held page file.Index = page.index
held page file.Script = page.script
held page file.Worker = page.worker
held page file.Library = page.library
held page file.Module = page.module
held page file.Style = page.style
held page file.Icon = page.icon
