-- `mesh::links::link_fresh` meets its contract: three knots are linked.
use Rattle.std.proofs.Common.{◌+◌, ap, ◌∙◌}
use Rattle.mesh.proofs.Linking.{leads_over, linked_leads, unlinked_leads, fresh_bare}
use Rattle.mesh.proofs.links.link_fresh.Goals as goal

pub returns : goal.returns
returns c d w h e =
    let one = linked_leads (unlinked_leads c.requires.0) c.link.ensures in
    let two = linked_leads one c.link-2.ensures in
    leads_over (λ y pos free. fresh_bare w h d y pos free.0.0.1 (λ q. free.0.1 (q ∙ ap (λ n. n + 1) e)) (λ q. free.1 (q ∙ ap (λ n. n + 2) e)))
    (linked_leads two c.link-3.ensures)
