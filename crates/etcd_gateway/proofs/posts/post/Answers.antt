use Rattle.std.proofs.Common.{◌≡◌, ◌++◌, ◌<◌, ◌^◌, length, string_bytes, arith, rules}
use Rattle.serde_json.specs.View.{view}
use Rattle.etcd_gateway.proofs.PostLemmas.{post_asks}
use Rattle.etcd_gateway.proofs.posts.post.Goals as goal

pub returns : goal.returns
returns c =
    let small : c.len.result < 2 ^ 64 = omega arith in
    let long : c.len.result ≡ length c.in_ok-body.body.items = search rules in
    let text : c.extend_from_slice.new.self.items ≡ string_bytes c.in_ok-head.head ++ c.in_ok-body.body.items = search rules in
    post_asks c.extend_from_slice.new.self.items (string_bytes c.in_ok-head.head) c.in_ok-body.body.items (string_bytes c.args.host.now.text) c.args.asked c.len.result
    (view c.args.tree.now) c.args.host.now.named small long (c.in_ok-body.ensures.text c.requires.whole) c.in_ok-head.ensures text (c.in_ok-body.ensures.reads_back c.requires.shallow)
