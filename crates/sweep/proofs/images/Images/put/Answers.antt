use Rattle.std.proofs.Common.{sym, subst}
use Rattle.sweep.specs.Images.{image_key}
use Rattle.sweep.specs.Order.{AreInOrder}
use Rattle.sweep.proofs.KeptImages.{image_ordered}
use Rattle.sweep.proofs.images.Images.put.Goals as goal

pub invariant_of-self : goal.invariant_of-self
invariant_of-self c =
    record {
      ports = subst (AreInOrder image_key) (sym c.put_image.ensures)
          (image_ordered c.self.inside.keeps _ c.self.inside.ports.items c.self.invariant.ports);
      switches = c.self.invariant.switches;
    }

pub invariant_of-self-in-Switch : goal.invariant_of-self-in-Switch
invariant_of-self-in-Switch c =
    record {
      ports = c.self.invariant.ports;
      switches = subst (AreInOrder image_key) (sym c.put_image-in-Switch.ensures)
          (image_ordered c.self.inside.keeps _ c.self.inside.switches.items c.self.invariant.switches);
    }
