-- The table of docs/RULES.md, one theorem. Assumes nothing.
use Rattle.frame.proofs.Corners as corners
use Rattle.session.proofs.NodeLists as services
use Rattle.agreement.specs.Table.{Table}

pub table : Table
table =
    record {
      pad_0 = corners.pad_0;
      pad_7 = corners.pad_7;
      pad_8 = corners.pad_8;
      pad_9 = corners.pad_9;
      free_1009 = services.free_1009;
      free_1017 = services.free_1017;
      bears_1007 = services.bears_1007;
      bears_1008 = services.bears_1008;
      bears_1019 = services.bears_1019;
      mac_empty = corners.mac_empty;
      iv = corners.iv_43;
      size_232 = λ key id payload code number room hk hi. corners.size_232 key id payload code number room hk hi;
      size_233 = λ key id payload code number room hk hi. corners.size_233 key id payload code number room hk hi;
    }
