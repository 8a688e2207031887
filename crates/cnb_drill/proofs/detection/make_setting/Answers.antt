use Rattle.cnb_drill.proofs.detection.make_setting.Goals as goal

pub returns : goal.returns
returns c = record { order = c.in_ok-order.ensures; catalog = c.in_ok-catalog.ensures; frame = c.in_ok-frame.ensures }
