-- What a site is.
use Rattle.std.specs.Prelude.{ℕ, Bool, List, map, string_bytes}
use Rattle.net_http.specs.declared.site.Site as declared

-- which hosts are its own beside the machine itself, whose pages may connect beside the host's own, which document it is, and whether it has
-- a page
pub record SiteValue : Type 0 where
  pub hosts : List (List ℕ)
  pub origins : List (List ℕ)
  pub identity : List ℕ
  pub has_page : Bool

-- what contracts see of a site
abbrev pub seen_site : declared.Site → SiteValue
seen_site site = record {
  hosts = map string_bytes site.hosts.items;
  origins = map string_bytes site.origins.items;
  identity = string_bytes site.identity;
  has_page = site.has_page;
}
